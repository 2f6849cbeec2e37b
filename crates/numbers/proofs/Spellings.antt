-- Laws of the walk over a text: how far it is the beginning of a number.
use mathlib.Core.Path.{◌≡◌, refl}
use mathlib.Core.List.{List, [], ◌∷◌}
use mathlib.Core.Bool.{true, false}
use mathlib.Core.Option.{some}
use Prim.Native.Nat.{ℕ, ◌+◌, ◌<◌}
use lib.IntN.{ℤ, pos, negsuc, neg_ℤ}
use lib.ListN.{length, get_or, drop}
use Rattle.laws.proofs.Lists.{split}
use Rattle.laws.specs.Text.{ascii}
use Rattle.numbers.specs.Number.{Spelling, start, minus, leading_zero, minus_zero, hex_mark, digits, stuck, digit_of, digit_on, after, spelt, meaning}

-- no character leads on from where no number can go on
pub stuck_stays : (t : List ℕ) → spelt stuck t ≡ stuck
unfolding spelt after
stuck_stays [] = refl
stuck_stays (c ∷ t) = stuck_stays t

-- what is left of a text at i is walked by its first character, and then by what is left at i + 1
pub spelt_next : (s : Spelling) (t : List ℕ) (i : ℕ) → i < length t → spelt s (drop i t) ≡ spelt (after s (get_or t i 0)) (drop (i + 1) t)
unfolding spelt
spelt_next s t i h = rw (split t i 0 h)

-- a text that makes a spelling a whole number, and that number
pub record GoesOn (s : Spelling) : Type 0 where
  pub text : List ℕ
  pub value : ℤ
  pub number : meaning (spelt s text) ≡ some value

-- a spelling that isn't stuck is the beginning of a number
pub goes_on : (s : Spelling) → (s ≡ stuck → ⊥) → GoesOn s
unfolding meaning spelt after digit_on digit_of
goes_on start h = record { text = ascii "1"; value = pos 1; number = refl }
goes_on minus h = record { text = ascii "1"; value = negsuc 0; number = refl }
goes_on leading_zero h = record { text = []; value = pos 0; number = refl }
goes_on minus_zero h = record { text = []; value = pos 0; number = refl }
goes_on hex_mark h = record { text = ascii "1"; value = pos 1; number = refl }
goes_on (digits base false value) h = record { text = []; value = pos value; number = refl }
goes_on (digits base true value) h = record { text = []; value = neg_ℤ (pos value); number = refl }
goes_on stuck h = absurd (h refl)
