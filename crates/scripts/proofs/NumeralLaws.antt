-- Laws of the numbers that a question names, one for each case.
use mathlib.Core.Path.{◌≡◌}
use mathlib.Core.Bool.{true, false}
use Prim.Native.Nat.{ℕ, ◌<◌, ◌≤◌}
use native.Mathlib.Omega.{arith}
use lib.Dec.{leb}
use lib.IntN.{ℤ, pos, nat_abs}
use lib.Signed.{lt_z}
use borrow.Author.Tests.{le-leb, lt-leb, leb-true}
use Rattle.laws.proofs.Cases.{bool_cases}
use Rattle.std.specs.Prelude.{Option, Some, None, Result, Ok, Err}
use Rattle.numbers.specs.declared.NumberError.{NumberError}
use Rattle.numbers.specs.declared.NumberError.TheVariants.{NotNumber, Beyond}
use Rattle.scripts.specs.Numerals.{natural_of, at_most, integer_of}

module _ (most : ℕ) (o : Option ℕ) where
  pub most_in : (n : ℕ) → o ≡ Some n → n ≤ most → Some n ≡ at_most most o
  unfolding at_most
  most_in n e h = rw (e, le-leb n most h)

  pub most_out : (n : ℕ) → o ≡ Some n → most < n → None ≡ at_most most o
  unfolding at_most
  most_out n e h = rw (e, lt-leb n most h)

  pub most_unread : o ≡ None → None ≡ at_most most o
  unfolding at_most
  most_unread e = rw e

module _ (o : Result ℤ NumberError) where
  pub natural_below : (v : ℤ) → o ≡ Ok v → lt_z v (pos 0) ≡ true → None ≡ natural_of o
  unfolding natural_of
  natural_below v e t = rw (e, t)

  pub natural_is : (v : ℤ) → o ≡ Ok v → lt_z v (pos 0) ≡ false → Some (nat_abs v) ≡ natural_of o
  unfolding natural_of
  natural_is v e t = rw (e, t)

  pub natural_none : o ≡ Err NotNumber → None ≡ natural_of o
  unfolding natural_of
  natural_none e = rw e

  pub natural_beyond : o ≡ Err Beyond → Some 18446744073709551615 ≡ natural_of o
  unfolding natural_of
  natural_beyond e = rw e

  pub integer_is : (v : ℤ) → o ≡ Ok v → Some v ≡ integer_of o
  unfolding integer_of
  integer_is v e = rw e

-- a number that is read is at most so much
pub most_is : (m a : ℕ) (o : Option ℕ) → at_most m o ≡ Some a → a ≤ m
unfolding at_most
most_is m a (Some n) e =
    bool_cases (leb n m)
    (λ t. let p : Some n ≡ Some a = rw t at e in let q : n ≡ a = cc in let h : n ≤ m = leb-true n m t in omega arith)
    (λ t. let p : None ≡ Some a = rw t at e in let z : ◌≡◌ {A = ℕ} 0 1 = cc in omega arith)
most_is m a None e = let z : ◌≡◌ {A = ℕ} 0 1 = cc in omega arith
