-- Laws of lying inside: the last bit decides.
use mathlib.Core.Path.{◌≡◌, refl, ap, ap₂}
use mathlib.Core.Bool.{Bool, true, false, ◌&&◌}
use mathlib.Core.List.{List}
use Prim.Native.Nat.{ℕ, zero, suc, ◌+◌, ◌*◌, ◌<◌, ◌≤◌}
use native.Mathlib.Omega.{arith}
use lib.Dec.{ltb}
use lib.ListN.{length}
use borrow.Author.Tests.{lt-ltb, le-ltb, ltb-true, ltb-false}
use Rattle.laws.proofs.Cases.{and_right}
use Rattle.fields.specs.Place.{bit_inside, inside}

pub bit_in : (p : List ℕ) (k : ℕ) → k < length p * 8 → bit_inside p k ≡ true
unfolding bit_inside
bit_in p k h = lt-ltb k (length p * 8) h

pub bit_out : (p : List ℕ) (k : ℕ) → length p * 8 ≤ k → bit_inside p k ≡ false
unfolding bit_inside
bit_out p k h = le-ltb k (length p * 8) h

pub bit_below : (p : List ℕ) (k : ℕ) → bit_inside p k ≡ true → k < length p * 8
unfolding bit_inside
bit_below p k e = ltb-true k (length p * 8) e

-- where the end of a run is inside, all of it is
pub inside_yes : (p : List ℕ) (at n : ℕ) → at + n ≤ length p * 8 → inside p at n ≡ true
unfolding inside
inside_yes p at zero h = refl
inside_yes p at (suc n) h = rw (inside_yes p at n (omega arith), bit_in p (at + n) (omega arith))

pub inside_no : (p : List ℕ) (at n : ℕ) → 0 < n → length p * 8 < at + n → inside p at n ≡ false
unfolding inside
inside_no p at zero h k = absurd (omega arith)
inside_no p at (suc n) h k = rw (bit_out p (at + n) (omega arith)) (and_false (inside p at n))
  where
    and_false : (b : Bool) → (b && false) ≡ false
    and_false true = refl
    and_false false = refl

-- a field is inside exactly when its last bit is
pub inside_by_last : (p : List ℕ) (at n : ℕ) → inside p at (suc n) ≡ bit_inside p (at + n)
unfolding bit_inside
inside_by_last p at n = by (bit_inside p (at + n)) refl
  where
    by : (t : Bool) → bit_inside p (at + n) ≡ t → inside p at (suc n) ≡ t
    by true e = inside_yes p at (suc n) (omega (arith, ltb-true (at + n) (length p * 8) e))
    by false e = inside_no p at (suc n) (omega arith) (omega (arith, ltb-false (at + n) (length p * 8) e))

-- each of its bits is there
pub inside_every : (p : List ℕ) (at n : ℕ) → inside p at n ≡ true → (k : ℕ) → k < n → at + k < length p * 8
unfolding inside
inside_every p at zero e k l = absurd (omega arith)
inside_every p at (suc n) e k l = omega (arith, bit_below p (at + n) (and_right (inside p at n) (bit_inside p (at + n)) e))

-- it depends on the number of bytes alone
pub inside_same : (p q : List ℕ) (at n : ℕ) → length p ≡ length q → inside p at n ≡ inside q at n
unfolding inside bit_inside
inside_same p q at zero e = refl
inside_same p q at (suc n) e = ap₂ ◌&&◌ (inside_same p q at n e) (ap (λ (l : ℕ). ltb (at + n) (l * 8)) e)
