-- How far a text is the beginning of a coefficient.
use mathlib.Core.Path.{◌≡◌, refl, sym, ap}
use mathlib.Core.List.{List, [], ◌∷◌}
use mathlib.Core.Bool.{true, false}
use Prim.Native.Nat.{ℕ, suc, ◌+◌, ◌<◌, ◌≤◌}
use native.Mathlib.Omega.{arith}
use lib.Dec.{eqb}
use lib.ListN.{length, get_or, drop, drop_of_length-le}
use Rattle.laws.specs.Text.{ascii, char}
use Rattle.laws.specs.Walks.{Longest, through, accepts, lead_on}
use Rattle.laws.proofs.Cases.{false≢true}
use Rattle.laws.proofs.Lists.{split}
use Rattle.laws.proofs.Walks.{Faithful, longest}
use Rattle.notation.specs.Stages.{on_digit, in_digits, stage_after, stage_from, is_coefficient}
use Rattle.notation.specs.Positions.{is_stuck, coefficient_walk, lone_minus}
use Rattle.notation.specs.declared.Stage.{Stage}
use Rattle.notation.specs.declared.Stage.TheVariants.{Start, Minus, Whole, DecimalPoint, Fraction, ExponentMark, ExponentSign, Exponent, Stuck}

-- ---- the walk and its language

pub through_stages : (s : Stage) (text : List ℕ) → through coefficient_walk s text ≡ stage_from s text
unfolding through stage_from
through_stages s [] = refl
through_stages s (c ∷ text) = through_stages (stage_after s c) text

-- its words are the texts that are coefficients
pub words_coefficients : (text : List ℕ) → accepts coefficient_walk text ≡ is_coefficient (stage_from Start text)
unfolding accepts
words_coefficients text = ap is_coefficient (through_stages Start text)

-- a text that makes a stage the end of a coefficient
goes_on : (s : Stage) → is_stuck s ≡ false → (text : List ℕ) × (is_coefficient (through coefficient_walk s text) ≡ true)
unfolding is_stuck is_coefficient through stage_after in_digits on_digit
goes_on Start f = (ascii "1", refl)
goes_on Minus f = (ascii "1", refl)
goes_on Whole f = ([], refl)
goes_on DecimalPoint f = ([], refl)
goes_on Fraction f = ([], refl)
goes_on ExponentMark f = (ascii "1", refl)
goes_on ExponentSign f = (ascii "1", refl)
goes_on Exponent f = ([], refl)
goes_on Stuck f = absurd (false≢true (sym f))

stuck_is : (s : Stage) → is_stuck s ≡ true → s ≡ Stuck
unfolding is_stuck
stuck_is Start t = absurd (false≢true t)
stuck_is Minus t = absurd (false≢true t)
stuck_is Whole t = absurd (false≢true t)
stuck_is DecimalPoint t = absurd (false≢true t)
stuck_is Fraction t = absurd (false≢true t)
stuck_is ExponentMark t = absurd (false≢true t)
stuck_is ExponentSign t = absurd (false≢true t)
stuck_is Exponent t = absurd (false≢true t)
stuck_is Stuck t = refl

pub coefficient_faithful : Faithful coefficient_walk
unfolding is_stuck stage_after is_coefficient
coefficient_faithful =
    record { free = refl; stays = λ s c t. rw (stuck_is s t); none = λ s t. rw (stuck_is s t); some = goes_on }

-- THE LAW OF POSITIONS of coefficients: what leads on is the longest beginning of a coefficient
pub coefficient_longest : (text : List ℕ) → Longest (accepts coefficient_walk) text (lead_on coefficient_walk Start text)
coefficient_longest text = longest coefficient_walk coefficient_faithful text

-- ---- the characters that lead on, one after the other

module _ (s next : Stage) (t : List ℕ) (i : ℕ) (h : i < length t) (e : next ≡ stage_after s (get_or t i 0)) where
  pub leads_more : is_stuck next ≡ false → lead_on coefficient_walk s (drop i t) ≡ suc (lead_on coefficient_walk next (drop (i + 1) t))
  unfolding lead_on
  leads_more f = rw (split t i 0 h, ← e, f)

  pub leads_none : is_stuck next ≡ true → lead_on coefficient_walk s (drop i t) ≡ 0
  unfolding lead_on
  leads_none f = rw (split t i 0 h, ← e, f)

pub leads_past : (s : Stage) (t : List ℕ) (i : ℕ) → length t ≤ i → lead_on coefficient_walk s (drop i t) ≡ 0
unfolding lead_on
leads_past s t i h = rw (drop_of_length-le t h)

-- a minus alone, by the text's length
pub minus_one : (t : List ℕ) → length t ≡ 1 → lone_minus t ≡ eqb (get_or t 0 0) (char "-")
unfolding lone_minus
minus_one [] h = absurd (omega arith)
minus_one (a ∷ []) h = refl
minus_one (a ∷ b ∷ t) h = absurd (omega arith)

pub minus_other : (t : List ℕ) → (length t ≡ 1 → ⊥) → lone_minus t ≡ false
unfolding lone_minus
minus_other [] h = refl
minus_other (a ∷ []) h = absurd (h refl)
minus_other (a ∷ b ∷ t) h = refl
