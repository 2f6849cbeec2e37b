-- What a column says, case by case as the code tells them apart.
use mathlib.Core.Path.{◌≡◌, refl, sym}
use mathlib.Core.List.{List, [], ◌∷◌}
use mathlib.Core.Bool.{true, false}
use mathlib.Core.Option.{Option, some, none}
use Prim.Native.Nat.{ℕ, ◌^◌, ◌≤◌, ◌<◌}
use native.Mathlib.Omega.{arith}
use lib.Dec.{T, ltb}
use lib.IntN.{ℤ, pos, negsuc, nat_abs}
use lib.ListN.{length, get_or}
use lib.Signed.{lt_z, non_neg, mag}
use mir.Syntax.{w32, w64}
use mir.Val.{Fits}
use borrow.Author.Tests.{le-ltb, ltb-true}
use Rattle.laws.proofs.Cases.{bool_cases, false≢true}
use Rattle.std.specs.Prelude.{Err}
use Rattle.std.specs.Result.{result_unwrap_or}
use Rattle.numbers.specs.Number.{answer_of}
use Rattle.numbers.specs.declared.NumberError.{NumberError}
use Rattle.numbers.specs.declared.NumberError.TheVariants.{NotNumber, Beyond}
use Rattle.numbers.proofs.Answers.{Large, not_number, beyond_large}
use Rattle.rows.specs.Values.{natural_from, integer_from, letter_of, is_given, identification_field}
use Rattle.rows.specs.declared.records.IdentificationField.TheVariants.{Unused, At}

module _ (default : ℕ) where
  natural_negative : (v : ℤ) → lt_z v (pos 0) ≡ true → default ≡ natural_from default (some v)
  unfolding natural_from
  natural_negative (pos m) t = absurd (omega (arith, ltb-true m 0 t))
  natural_negative (negsuc m) t = refl

  natural_here : (v : ℤ) → lt_z v (pos 0) ≡ false → lt_z v (pos (2 ^ 32)) ≡ true → nat_abs v ≡ natural_from default (some v)
  unfolding natural_from
  natural_here (pos m) f t = rw t
  natural_here (negsuc m) f t = absurd (false≢true (sym f))

  natural_over : (v : ℤ) → lt_z v (pos (2 ^ 32)) ≡ false → default ≡ natural_from default (some v)
  unfolding natural_from
  natural_over (pos m) f = rw f
  natural_over (negsuc m) f = refl

  natural_huge : (v : ℤ) → 2 ^ 60 ≤ nat_abs v → default ≡ natural_from default (some v)
  unfolding natural_from
  natural_huge (pos m) h = rw (le-ltb m (2 ^ 32) (omega arith))
  natural_huge (negsuc m) h = refl

  -- no number was read, or one that is negative, that fits, or that is too large
  module _ {n : Option ℤ} where
    natural_none : n ≡ none → default ≡ natural_from default n
    unfolding natural_from
    natural_none e = rw e

    pub natural_low : {v : ℤ} → n ≡ some v → lt_z v (pos 0) ≡ true → default ≡ natural_from default n
    natural_low {v} e t = rw e (natural_negative v t)

    pub natural_is : {v : ℤ} → n ≡ some v → lt_z v (pos 0) ≡ false → lt_z v (pos (2 ^ 32)) ≡ true → nat_abs v ≡ natural_from default n
    natural_is {v} e f t = rw e (natural_here v f t)

    pub natural_high : {v : ℤ} → n ≡ some v → lt_z v (pos (2 ^ 32)) ≡ false → default ≡ natural_from default n
    natural_high {v} e f = rw e (natural_over v f)

    natural_large : Large n → default ≡ natural_from default n
    natural_large w = rw w.number (natural_huge w.value w.large)

  -- no value was read
  pub natural_unread : (n : Option ℤ) (e : NumberError) → answer_of n ≡ Err e → default ≡ natural_from default n
  natural_unread n NotNumber h = natural_none (not_number n h)
  natural_unread n Beyond h = natural_large (beyond_large n h)

-- such a number is cast to 32 bits without loss
pub natural_fits : (v : ℤ) → lt_z v (pos 0) ≡ false → lt_z v (pos (2 ^ 32)) ≡ true → T (non_neg v) × Fits w32 (nat_abs v)
natural_fits (pos m) f t = (tt, omega (arith, ltb-true m (2 ^ 32) t))
natural_fits (negsuc m) f t = absurd (false≢true (sym f))

-- what was read as a number, or else the default
pub integer_read : (default : ℤ) (n : Option ℤ) → result_unwrap_or (answer_of n) default ≡ integer_from default n
unfolding answer_of integer_from
integer_read default none = refl
integer_read default (some v) = bool_cases (ltb (nat_abs v) (2 ^ 60)) (λ t. rw t) (λ t. rw t)

pub letter_none : (text : List ℕ) → length text ≡ 0 → 0 ≡ letter_of text
unfolding letter_of
letter_none [] h = refl
letter_none (b ∷ bs) h = absurd (omega arith)

pub letter_first : (text : List ℕ) → (length text ≡ 0 → ⊥) → get_or text 0 0 ≡ letter_of text
unfolding letter_of
letter_first [] h = absurd (h refl)
letter_first (b ∷ bs) h = refl

pub given_not : (text : List ℕ) → length text ≡ 0 → false ≡ is_given text
unfolding is_given
given_not [] h = refl
given_not (b ∷ bs) h = absurd (omega arith)

pub given_is : (text : List ℕ) → (length text ≡ 0 → ⊥) → true ≡ is_given text
unfolding is_given
given_is [] h = absurd (h refl)
given_is (b ∷ bs) h = refl

-- an identification field by the sign of its offset
pub field_unused : (z : ℤ) (width : ℕ) → lt_z z (pos 0) ≡ true → Unused ≡ identification_field z width
unfolding identification_field
field_unused (pos m) width t = absurd (omega (arith, ltb-true m 0 t))
field_unused (negsuc m) width t = refl

pub field_used : (z : ℤ) (width : ℕ) → lt_z z (pos 0) ≡ false → At (record { 0 = nat_abs z }) width ≡ identification_field z width
unfolding identification_field
field_used (pos m) width f = refl
field_used (negsuc m) width f = absurd (false≢true (sym f))

pub offset_fits : (z : ℤ) → mag z < 2 ^ 63 → lt_z z (pos 0) ≡ false → T (non_neg z) × Fits w64 (nat_abs z)
offset_fits (pos m) h f = (tt, omega arith)
offset_fits (negsuc m) h f = absurd (false≢true (sym f))
