-- Laws of a text's first character, as the code tells the cases apart.
use mathlib.Core.Path.{◌≡◌, refl, ap, sym, ◌∙◌}
use mathlib.Core.Logic.{◌⊎◌, inl, inr, ⊎_elim}
use mathlib.Core.List.{List, [], ◌∷◌}
use mathlib.Core.Bool.{true, false}
use Prim.Native.Nat.{ℕ, ◌-◌}
use native.Mathlib.Omega.{arith}
use lib.IntN.{pos}
use lib.ListN.{length, get_or, take, drop}
use borrow.Author.Tests.{eq-eqb, ne_eqb}
use Rattle.laws.specs.Text.{char}
use Rattle.laws.proofs.Lists.{rest}
use Rattle.numbers.specs.Number.{Spelling, start, minus, leading_zero, hex_mark, digits, after, spelt, meaning, answer_of}
use Rattle.std.specs.Prelude.{Ok, Err}
use Rattle.numbers.specs.declared.NumberError.TheVariants.{NotNumber}
use Rattle.numbers.proofs.Spellings.{stuck_stays, spelt_next}
use Rattle.numbers.proofs.Answers.{answered}

-- no character is left
pub no_first : (s : Spelling) (t : List ℕ) → length t ≡ 0 → answered s t ≡ answer_of (meaning s)
unfolding spelt
no_first s [] h = refl
no_first s (c ∷ t) h = absurd (omega arith)

module _ (s u : Spelling) (t : List ℕ) (some_left : length t ≡ 0 → ⊥) where
  -- a first character that leads from s to u: the rest goes on after u
  pub first_then : after s (get_or t 0 0) ≡ u → answered s t ≡ answered u (take (length t - 1) (drop 1 t))
  first_then e = rw (rest t 1, ← e) (ap (λ x. answer_of (meaning x)) (spelt_next s t 0 (omega arith)))

  -- a first character after which s and u are the same: the whole text is answered alike
  pub first_alike : after s (get_or t 0 0) ≡ after u (get_or t 0 0) → answered s t ≡ answered u t
  first_alike e =
      ap (λ x. answer_of (meaning x))
      (spelt_next s t 0 (omega arith) ∙ ap (λ x. spelt x (drop 1 t)) e ∙ sym (spelt_next u t 0 (omega arith)))

-- what each spelling is with one more character, c
module _ (c : ℕ) where
  pub start_minus : c ≡ char "-" → after start c ≡ minus
  unfolding after
  start_minus e = rw (eq-eqb c (char "-") e)

  pub start_zero : c ≡ char "0" → after start c ≡ leading_zero
  unfolding after
  start_zero e = rw e

  pub start_digit : (c ≡ char "-" → ⊥) → (c ≡ char "0" → ⊥) → after start c ≡ after (digits 10 false 0) c
  unfolding after
  start_digit h k = rw (ne_eqb c (char "-") h, ne_eqb c (char "0") k)

  pub minus_digit : (c ≡ char "0" → ⊥) → after minus c ≡ after (digits 10 true 0) c
  unfolding after
  minus_digit h = rw (ne_eqb c (char "0") h)

  pub zero_mark : (c ≡ char "X") ⊎ (c ≡ char "x") → after leading_zero c ≡ hex_mark
  unfolding after
  zero_mark h = ⊎_elim (λ e. rw e) (λ e. rw e) h

  pub zero_digit : ((c ≡ char "X") ⊎ (c ≡ char "x") → ⊥) → after leading_zero c ≡ after (digits 8 false 0) c
  unfolding after
  zero_digit h = rw (ne_eqb c (char "x") (λ e. h (inr e)), ne_eqb c (char "X") (λ e. h (inl e)))

  pub hex_digit_lem : after hex_mark c ≡ after (digits 16 false 0) c
  unfolding after
  hex_digit_lem = refl

-- after a minus, 0 alone is a number
pub minus_zero_lem : (t : List ℕ) → length t ≡ 1 → get_or t 0 0 ≡ char "0" → answered minus t ≡ Ok (pos 0)
unfolding answer_of meaning spelt after
minus_zero_lem [] h e = absurd (omega arith)
minus_zero_lem (b ∷ []) h e = rw e
minus_zero_lem (b ∷ x ∷ t) h e = absurd (omega arith)

-- 0 with anything after it is none: no octal has a minus
pub minus_zeros : (t : List ℕ) → (length t ≡ 0 → ⊥) → (length t ≡ 1 → ⊥) → get_or t 0 0 ≡ char "0" → answered minus t ≡ Err NotNumber
unfolding answer_of meaning spelt after
minus_zeros [] h k e = absurd (h refl)
minus_zeros (b ∷ []) h k e = absurd (k refl)
minus_zeros (b ∷ x ∷ t) h k e = rw (e, stuck_stays t)
