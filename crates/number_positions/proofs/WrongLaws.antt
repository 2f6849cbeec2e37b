-- How far a text is the beginning of a number.
use mathlib.Core.Path.{◌≡◌, refl, ap, sym, ◌∙◌}
use mathlib.Core.Logic.{◌⊎◌, inl, inr, ⊎_elim}
use mathlib.Core.List.{List, [], ◌∷◌}
use mathlib.Core.Bool.{Bool, true, false, cond, ◌&&◌, ◌||◌}
use Prim.Native.Nat.{ℕ, suc, ◌+◌, ◌*◌, ◌-◌, ◌<◌, ◌≤◌}
use native.Mathlib.Omega.{arith}
use lib.Dec.{eqb, ltb}
use lib.ListN.{length, get_or, take, drop, length-drop, drop_of_length-le}
use borrow.Author.Tests.{ne_eqb, lt-ltb, le-ltb}
use Rattle.laws.specs.Text.{char}
use Rattle.laws.specs.Walks.{Longest, through, accepts, lead_on}
use Rattle.laws.proofs.Cases.{bool_cases, false≢true}
use Rattle.laws.proofs.Lists.{rest, split}
use Rattle.laws.proofs.Walks.{Faithful, longest}
use Rattle.numbers.specs.Number.{Spelling, start, minus, leading_zero, minus_zero, hex_mark, digits, stuck}
use Rattle.numbers.specs.Number.{digit_of, digit_on, after, spelt, meaning, number_of}
use Rattle.number_positions.specs.Positions.{is_stuck, is_number, number_walk, no_digits}
use Rattle.numbers.proofs.Spellings.{goes_on}

-- ---- the walk and its language

pub through_spelt : (s : Spelling) (text : List ℕ) → through number_walk s text ≡ spelt s text
unfolding through spelt
through_spelt s [] = refl
through_spelt s (c ∷ text) = through_spelt (after s c) text

-- the words of the walk are the texts that are numbers
pub words_numbers : (text : List ℕ) → accepts number_walk text ≡ is_number (number_of text)
unfolding accepts number_of
words_numbers text = ap (λ (s : Spelling). is_number (meaning s)) (through_spelt start text)

not_stuck : (s : Spelling) → is_stuck s ≡ false → s ≡ stuck → ⊥
unfolding is_stuck
not_stuck s f e = false≢true (sym f ∙ ap is_stuck e)

stuck_is : (s : Spelling) → is_stuck s ≡ true → s ≡ stuck
unfolding is_stuck
stuck_is start t = absurd (false≢true t)
stuck_is minus t = absurd (false≢true t)
stuck_is leading_zero t = absurd (false≢true t)
stuck_is minus_zero t = absurd (false≢true t)
stuck_is hex_mark t = absurd (false≢true t)
stuck_is (digits base negative value) t = absurd (false≢true t)
stuck_is stuck t = refl

pub number_faithful : Faithful number_walk
unfolding is_stuck after meaning is_number
number_faithful =
    record {
      free = refl;
      stays = λ s c t. rw (stuck_is s t);
      none = λ s t. rw (stuck_is s t);
      some = λ s f. let g = goes_on s (not_stuck s f) in (g.text, rw (through_spelt s g.text, g.number));
    }

-- THE LAW OF POSITIONS of numbers: what leads on is the longest beginning of a number
pub number_longest : (text : List ℕ) → Longest (accepts number_walk) text (lead_on number_walk start text)
number_longest text = longest number_walk number_faithful text

-- ---- the characters that lead on, as the code tells the cases apart

-- no character is left
pub lead_none : (s : Spelling) (t : List ℕ) → length t ≡ 0 → lead_on number_walk s t ≡ 0
unfolding lead_on
lead_none s [] h = refl
lead_none s (c ∷ t) h = absurd (omega arith)

lead_next : (s : Spelling) (t : List ℕ) (i : ℕ) → i < length t
    → lead_on number_walk s (drop i t) ≡ cond (is_stuck (after s (get_or t i 0))) 0 (suc (lead_on number_walk (after s (get_or t i 0)) (drop (i + 1) t)))
unfolding lead_on
lead_next s t i h = rw (split t i 0 h)

module _ (s u : Spelling) (t : List ℕ) (some_left : length t ≡ 0 → ⊥) where
  -- a first character that leads from s to u, where it can go on
  pub lead_then : after s (get_or t 0 0) ≡ u → is_stuck u ≡ false → lead_on number_walk s t ≡ suc (lead_on number_walk u (take (length t - 1) (drop 1 t)))
  lead_then e f = rw (rest t 1) (lead_next s t 0 (omega arith) ∙ rw (e, f))

  -- a first character after which s and u are the same
  pub lead_alike : after s (get_or t 0 0) ≡ after u (get_or t 0 0) → lead_on number_walk s t ≡ lead_on number_walk u t
  lead_alike e = lead_next s t 0 (omega arith) ∙ rw e (sym (lead_next u t 0 (omega arith)))

-- how many digits lead on doesn't depend on the value of those before
pub lead_any : (base : ℕ) (n m : Bool) (v w : ℕ) (t : List ℕ) → lead_on number_walk (digits base n v) t ≡ lead_on number_walk (digits base m w) t
unfolding lead_on after digit_on is_stuck
lead_any base n m v w [] = refl
lead_any base n m v w (c ∷ t) =
    bool_cases (ltb (digit_of c) base)
    (λ q. rw q (ap suc (lead_any base n m (v * base + digit_of c) (w * base + digit_of c) t)))
    (λ q. rw q)

module _ (base : ℕ) (t : List ℕ) (i : ℕ) where
  pub digit_leads : i < length t → digit_of (get_or t i 0) < base
      → lead_on number_walk (digits base false 0) (drop i t) ≡ suc (lead_on number_walk (digits base false 0) (drop (i + 1) t))
  unfolding after digit_on is_stuck
  digit_leads h d = lead_next (digits base false 0) t i h ∙ rw (lt-ltb (digit_of (get_or t i 0)) base d) (ap suc (lead_any base false false _ 0 (drop (i + 1) t)))

  pub digit_stops : i < length t → base ≤ digit_of (get_or t i 0) → lead_on number_walk (digits base false 0) (drop i t) ≡ 0
  unfolding after digit_on is_stuck
  digit_stops h d = lead_next (digits base false 0) t i h ∙ rw (le-ltb (digit_of (get_or t i 0)) base d)

  pub digit_past : length t ≤ i → lead_on number_walk (digits base false 0) (drop i t) ≡ 0
  unfolding lead_on
  digit_past h = rw (drop_of_length-le t h)

-- after the hexadecimal mark come digits
pub hex_leads : (t : List ℕ) → lead_on number_walk hex_mark t ≡ lead_on number_walk (digits 16 false 0) t
unfolding lead_on after
hex_leads [] = refl
hex_leads (c ∷ t) = refl

-- nothing follows a 0 after a minus
zero_alone : (t : List ℕ) → lead_on number_walk minus_zero t ≡ 0
unfolding lead_on after is_stuck
zero_alone [] = refl
zero_alone (c ∷ t) = refl

pub minus_zero_leads : (t : List ℕ) → (length t ≡ 0 → ⊥) → get_or t 0 0 ≡ char "0" → lead_on number_walk minus t ≡ 1
unfolding after is_stuck
minus_zero_leads t h e = lead_then minus minus_zero t h (rw e) refl ∙ ap suc (zero_alone _)

-- with the first character that led on, in one step or two
module _ (t : List ℕ) (r : ℕ) where
  pub one_more : (length t ≡ 0 → ⊥) → r ≤ length (take (length t - 1) (drop 1 t)) → 1 + r ≤ length t
  one_more h k = let e = ap length (rest t 1) in omega (arith, length-drop 1 t)

pub then_one : (n m : ℕ) → n ≡ m → 1 + n ≡ suc m
then_one n m e = omega arith

pub then_two : (n m : ℕ) → n ≡ m → 2 + n ≡ suc (suc m)
then_two n m e = omega arith

-- ---- no digits, by the text's length

pub none_in_one : (t : List ℕ) → length t ≡ 1 → no_digits t ≡ eqb (get_or t 0 0) (char "-")
unfolding no_digits
none_in_one [] h = absurd (omega arith)
none_in_one (a ∷ []) h = refl
none_in_one (a ∷ b ∷ t) h = absurd (omega arith)

pub none_in_two : (t : List ℕ) → length t ≡ 2
    → no_digits t ≡ (eqb (get_or t 0 0) (char "0") && (eqb (get_or t 1 0) (char "x") || eqb (get_or t 1 0) (char "X")))
unfolding no_digits
none_in_two [] h = absurd (omega arith)
none_in_two (a ∷ []) h = absurd (omega arith)
none_in_two (a ∷ b ∷ []) h = refl
none_in_two (a ∷ b ∷ c ∷ t) h = absurd (omega arith)

pub none_in_others : (t : List ℕ) → (length t ≡ 1 → ⊥) → (length t ≡ 2 → ⊥) → no_digits t ≡ false
unfolding no_digits
none_in_others [] h k = refl
none_in_others (a ∷ []) h k = absurd (h refl)
none_in_others (a ∷ b ∷ []) h k = absurd (k refl)
none_in_others (a ∷ b ∷ c ∷ t) h k = refl

is_mark : (b : ℕ) → (b ≡ char "X") ⊎ (b ≡ char "x") → (eqb b (char "x") || eqb b (char "X")) ≡ true
is_mark b h = ⊎_elim (λ e. rw e) (λ e. rw e) h

module _ (t : List ℕ) (h : length t ≡ 2) (zero : get_or t 0 0 ≡ char "0") where
  pub mark_alone : (get_or t 1 0 ≡ char "X") ⊎ (get_or t 1 0 ≡ char "x") → true ≡ no_digits t
  mark_alone m = sym (none_in_two t h ∙ rw (zero, is_mark (get_or t 1 0) m))

  pub no_mark : ((get_or t 1 0 ≡ char "X") ⊎ (get_or t 1 0 ≡ char "x") → ⊥) → false ≡ no_digits t
  no_mark n =
      sym (none_in_two t h ∙ rw (zero, ne_eqb (get_or t 1 0) (char "x") (λ e. n (inr e)), ne_eqb (get_or t 1 0) (char "X") (λ e. n (inl e))))
