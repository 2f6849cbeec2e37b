-- What each answer says of the number that a text is.
use mathlib.Core.Path.{◌≡◌, refl, subst}
use mathlib.Core.List.{List}
use mathlib.Core.Bool.{false, ◌&&◌, and-false}
use mathlib.Core.Option.{Option, some, none}
use Prim.Native.Nat.{ℕ, suc, ◌^◌, ◌≤◌, ◌<◌}
use native.Mathlib.Omega.{arith}
use lib.Dec.{ltb}
use lib.IntN.{ℤ, pos, negsuc, nat_abs}
use lib.Signed.{le_z}
use borrow.Author.Tests.{ltb-true, ltb-false, lt-ltb, le-ltb, lt-leb}
use Rattle.laws.proofs.Cases.{cond_cases}
use Rattle.numbers.specs.Number.{Spelling, spelt, meaning, answer_of}
use Rattle.std.specs.Prelude.{Result, Ok, Err}
use Rattle.numbers.specs.declared.NumberError.{NumberError}
use Rattle.numbers.specs.declared.NumberError.TheVariants.{NotNumber, Beyond}

-- the answer of a text that goes on with t after what s is
abbrev pub answered : Spelling → List ℕ → Result ℤ NumberError
answered s t = answer_of (meaning (spelt s t))

-- a number below 2 ^ 60 in magnitude is answered by itself
pub answer_small : (v : ℤ) → nat_abs v < 2 ^ 60 → answer_of (some v) ≡ Ok v
unfolding answer_of
answer_small v h = rw (lt-ltb (nat_abs v) (2 ^ 60) h)

-- any larger one is answered alike
pub answer_large : (v : ℤ) → 2 ^ 60 ≤ nat_abs v → answer_of (some v) ≡ Err Beyond
unfolding answer_of
answer_large v h = rw (le-ltb (nat_abs v) (2 ^ 60) h)

-- a text's number is v, and below 2 ^ 60 in magnitude
pub record Told (n : Option ℤ) (v : ℤ) : Type 0 where
  pub number : n ≡ some v
  pub small : nat_abs v < 2 ^ 60

-- a text is a number of 2 ^ 60 or more in magnitude
pub record Large (n : Option ℤ) : Type 0 where
  pub value : ℤ
  pub number : n ≡ some value
  pub large : 2 ^ 60 ≤ nat_abs value

-- what an answer says of the number that a text is
abbrev pub Says : Result ℤ NumberError → Option ℤ → Type 0
Says (Ok v) n = Told n v
Says (Err NotNumber) n = n ≡ none
Says (Err Beyond) n = Large n

-- each answer says so of the number that it was given for
pub answer_says : (n : Option ℤ) → Says (answer_of n) n
unfolding answer_of
answer_says none = refl
answer_says (some v) =
    cond_cases (λ r. Says r (some v)) (ltb (nat_abs v) (2 ^ 60))
    (λ t. record { number = refl; small = ltb-true _ _ t })
    (λ t. record { value = v; number = refl; large = ltb-false _ _ t })

-- a text that is answered by a value is that number
pub value_told : (n : Option ℤ) {v : ℤ} → answer_of n ≡ Ok v → Told n v
value_told n e = subst (λ r. Says r n) e (answer_says n)

-- a text that is answered as no number is none, however long it is
pub not_number : (n : Option ℤ) → answer_of n ≡ Err NotNumber → n ≡ none
not_number n e = subst (λ r. Says r n) e (answer_says n)

-- a text that is answered as beyond is a number, and a large one
pub beyond_large : (n : Option ℤ) → answer_of n ≡ Err Beyond → Large n
beyond_large n e = subst (λ r. Says r n) e (answer_says n)

-- a number above, and one below, all that is smaller in magnitude
above : (n : ℕ) (hi : ℤ) → nat_abs hi < n → le_z (pos n) hi ≡ false
above n (pos b) h = lt-leb n b h
above n (negsuc b) h = refl

below : (n : ℕ) (lo : ℤ) → nat_abs lo < suc n → le_z lo (negsuc n) ≡ false
below n (pos a) h = refl
below n (negsuc a) h = lt-leb n a (omega arith)

-- a large number is in no range whose ends are small
pub large_outside : (lo v hi : ℤ) → nat_abs lo < 2 ^ 60 → nat_abs hi < 2 ^ 60 → 2 ^ 60 ≤ nat_abs v → (le_z lo v && le_z v hi) ≡ false
large_outside lo (pos n) hi p q h = rw (above n hi (omega arith)) (and-false (le_z lo (pos n)))
large_outside lo (negsuc n) hi p q h = rw (below n lo (omega arith))
