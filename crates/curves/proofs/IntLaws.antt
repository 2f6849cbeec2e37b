-- Laws of integers that the proofs of signed functions cite: signs, magnitudes, and what a word holds.
use mathlib.Core.Path.{◌≡◌, refl, sym, ap₂, ◌∙◌}
use mathlib.Core.Bool.{Bool, true, false, not, beq}
use Prim.Native.Nat.{ℕ, zero, suc, ◌+◌, ◌-◌, ◌^◌, ◌<◌, ◌≤◌}
use native.Mathlib.Omega.{arith}
use lib.IntN.{ℤ, pos, negsuc, nat_abs, neg_ℤ, sub_ℕ, ◌+ℤ◌, ◌-ℤ◌}
use lib.Signed.{mag, lt_z, non_neg}
use lib.Dec.{T, ltb}
use mir.Syntax.{w64}
use mir.Val.{SFits, to_z, of_z}
use mir.ValLaws.{to_z-of_z}
use borrow.Author.Tests.{le-ltb, ltb-true}
use Rattle.laws.proofs.Cases.{false≢true, cond_cases}
use Rattle.laws.proofs.Words.{fits_size, kept}

-- a number of small magnitude passes through a word
pub through : (z : ℤ) → nat_abs z < 2 ^ 63 → to_z w64 (of_z w64 z) ≡ z
through z h = to_z-of_z w64 z (fits_size z h)

pub below_zero : (z : ℤ) → lt_z z (pos 0) ≡ not (non_neg z)
below_zero (pos n) = le-ltb n 0 (omega arith)
below_zero (negsuc n) = refl

pub not_below_zero : (z : ℤ) → lt_z z (pos 0) ≡ false → T (non_neg z)
not_below_zero (pos n) e = tt
not_below_zero (negsuc n) e = absurd (false≢true (sym e))

-- -1 less a number below 0 is one less than its magnitude
pub flipped : (z : ℤ) → lt_z z (pos 0) ≡ true → negsuc 0 -ℤ z ≡ pos (nat_abs z - 1)
flipped (pos n) e = absurd (false≢true (sym (le-ltb n 0 (omega arith)) ∙ e))
flipped (negsuc n) e = simp (le-ltb (suc n) 1 (omega arith))

pub flipped_size : (z : ℤ) → lt_z z (pos 0) ≡ true → nat_abs z - 1 + 1 ≡ nat_abs z
flipped_size (pos n) e = absurd (false≢true (sym (le-ltb n 0 (omega arith)) ∙ e))
flipped_size (negsuc n) e = omega arith

-- the magnitude of a sum, of a negation and of a difference
size_sub : (a b : ℕ) → nat_abs (sub_ℕ a b) ≤ a + b
size_sub a b = cond_cases (λ (z : ℤ). nat_abs z ≤ a + b) (ltb a b) (λ e. omega (arith, ltb-true a b e)) (λ e. omega arith)

pub size_add : (a b : ℤ) → nat_abs (a +ℤ b) ≤ nat_abs a + nat_abs b
size_add (pos a) (pos b) = omega arith
size_add (pos a) (negsuc b) = size_sub a (suc b)
size_add (negsuc a) (pos b) = omega (arith, size_sub b (suc a))
size_add (negsuc a) (negsuc b) = omega arith

pub size_neg : (a : ℤ) → nat_abs (neg_ℤ a) ≡ nat_abs a
size_neg (pos zero) = refl
size_neg (pos (suc n)) = refl
size_neg (negsuc n) = refl

pub size_minus : (a b : ℤ) → nat_abs (a -ℤ b) ≤ nat_abs a + nat_abs b
size_minus a b = omega (arith, size_add a (neg_ℤ b), size_neg b)

-- two that are apart have a distance
pub apart : (a b : ℤ) → lt_z a b ≡ true → 0 < nat_abs (b -ℤ a)
apart (pos zero) (pos b) e = omega (arith, ltb-true zero b e)
apart (pos (suc a)) (pos b) e = let h = ltb-true (suc a) b e in simp (le-ltb b (suc a) (omega arith)) (omega arith)
apart (pos a) (negsuc b) e = absurd (false≢true e)
apart (negsuc a) (pos b) e = omega arith
apart (negsuc a) (negsuc b) e = let h = ltb-true b a e in simp (le-ltb (suc a) (suc b) (omega arith)) (omega arith)

-- and the greater less the smaller is that distance
pub distance : (a b : ℤ) → lt_z a b ≡ true → pos (nat_abs (b -ℤ a)) ≡ b -ℤ a
distance (pos zero) (pos b) e = refl
distance (pos (suc a)) (pos b) e = let h = ltb-true (suc a) b e in simp (le-ltb b (suc a) (omega arith))
distance (pos a) (negsuc b) e = absurd (false≢true e)
distance (negsuc a) (pos b) e = refl
distance (negsuc a) (negsuc b) e = let h = ltb-true b a e in simp (le-ltb (suc a) (suc b) (omega arith))

-- the difference of two numbers of small magnitude that passed through words
pub gap_fits : (a b : ℤ) → nat_abs a ≤ 2 ^ 32 → nat_abs b ≤ 2 ^ 32 → SFits w64 (to_z w64 (of_z w64 a) -ℤ to_z w64 (of_z w64 b))
gap_fits a b h k = rw (through a (omega arith), through b (omega arith)) (fits_size (a -ℤ b) (omega (arith, size_minus a b)))

pub gap_is : (a b : ℤ) {r : ℤ} → nat_abs a ≤ 2 ^ 32 → nat_abs b ≤ 2 ^ 32 → mag r < 2 ^ 63 → r ≡ to_z w64 (of_z w64 a) -ℤ to_z w64 (of_z w64 b) → to_z w64
    (of_z w64 r) ≡ a -ℤ b
gap_is a b h k f e = kept f (e ∙ ap₂ ◌-ℤ◌ (through a (omega arith)) (through b (omega arith)))

-- two tests that differ, and two that don't
pub differ : (s t : Bool) → not (beq s t) ≡ true → s ≡ t → ⊥
differ true true e p = false≢true e
differ true false e p = false≢true (sym p)
differ false true e p = false≢true p
differ false false e p = false≢true e

pub agree : (s t : Bool) → not (beq s t) ≡ false → s ≡ t
agree true true e = refl
agree true false e = e
agree false true e = sym e
agree false false e = refl
