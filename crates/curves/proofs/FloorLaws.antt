-- A fraction rounded down: that it is the greatest integer not above the fraction, and how it comes out of magnitudes.
use mathlib.Core.Path.{◌≡◌, refl, sym, ap, ◌∙◌}
use mathlib.Core.Bool.{true, not}
use Prim.Native.Nat.{ℕ, zero, suc, ◌+◌, ◌-◌, ◌*◌, ◌/◌, ◌<◌, ◌≤◌}
use native.Mathlib.Nat.{div-mul-le_self, lt-div-mul-add, div-eq_of_lt, zero-div, add-div_right, suc-mul, mul-div_cancel, mul-add-div_right, add-zero}
use native.Mathlib.Omega.{arith}
use lib.IntN.{ℤ, pos, negsuc, nat_abs, neg_ℤ, ◌+ℤ◌, ◌*ℤ◌}
use lib.Signed.{lt_z, le_z, non_neg}
use borrow.Author.Tests.{lt-ltb, le-leb}
use Rattle.laws.proofs.Cases.{false≢true}
use Rattle.curves.specs.Floor.{floor_div}

-- -m is not above -(n + 1), and -(n + 1) below -m
neg_le : (m n : ℕ) → n < m → le_z (neg_ℤ (pos m)) (negsuc n) ≡ true
neg_le zero n h = absurd (omega arith)
neg_le (suc m) n h = le-leb n m (omega arith)

neg_lt : (m n : ℕ) → m ≤ n → lt_z (negsuc n) (neg_ℤ (pos m)) ≡ true
neg_lt zero n h = refl
neg_lt (suc m) n h = lt-ltb m n (omega arith)

neg_next : (q : ℕ) → negsuc q +ℤ pos 1 ≡ neg_ℤ (pos q)
neg_next zero = refl
neg_next (suc q) = simp (lt-ltb 1 (suc (suc q)) (omega arith)) (ap negsuc (omega arith))

neg_times : (q d : ℕ) → neg_ℤ (pos q) *ℤ pos d ≡ neg_ℤ (pos (q * d))
neg_times zero d = ap pos (zero_times d) ∙ sym (ap (λ (n : ℕ). neg_ℤ (pos n)) (zero_times d))
  where
    zero_times : (d : ℕ) → zero * d ≡ zero
    zero_times d = omega arith
neg_times (suc q) d = refl

-- d times it is not above z, and d times the next integer is
pub floor_low : (z : ℤ) (d : ℕ) → 0 < d → le_z (floor_div z d *ℤ pos d) z ≡ true
unfolding floor_div
floor_low (pos n) d h = le-leb (n / d * d) n (div-mul-le_self n d)
floor_low (negsuc n) d h = neg_le (suc (n / d) * d) n (omega (arith, suc-mul (n / d) d, lt-div-mul-add {a = n} h))

pub floor_high : (z : ℤ) (d : ℕ) → 0 < d → lt_z z ((floor_div z d +ℤ pos 1) *ℤ pos d) ≡ true
unfolding floor_div
floor_high (pos n) d h = lt-ltb n ((n / d + 1) * d) (omega (arith, next_times (n / d) d, lt-div-mul-add {a = n} h))
  where
    next_times : (q d : ℕ) → (q + 1) * d ≡ q * d + d
    next_times q d = ap (λ (k : ℕ). k * d) (omega arith) ∙ suc-mul q d
floor_high (negsuc n) d h = rw (neg_next (n / d), neg_times (n / d) d) (neg_lt (n / d * d) n (div-mul-le_self n d))

-- a negative fraction is rounded down by rounding its magnitude up
neg_floor : (k d : ℕ) → 0 < d → neg_ℤ (pos ((k + (d - 1)) / d)) ≡ floor_div (neg_ℤ (pos k)) d
unfolding floor_div
neg_floor zero d h = ap (λ (n : ℕ). neg_ℤ (pos n)) (div-eq_of_lt {n = zero + (d - 1)} {m = d} (omega arith)) ∙ ap pos (sym (zero-div d))
neg_floor (suc k) d h = ap (λ (n : ℕ). neg_ℤ (pos n)) (ap (λ (n : ℕ). n / d) (moved k d h) ∙ add-div_right k h ∙ one_more (k / d))
  where
    moved : (k d : ℕ) → 0 < d → suc k + (d - 1) ≡ k + d
    moved k d h = omega arith

    one_more : (n : ℕ) → n + 1 ≡ suc n
    one_more n = omega arith

-- nothing is rounded where d goes into z
pub floor_exact : (z : ℤ) (d : ℕ) → 0 < d → floor_div (z *ℤ pos d) d ≡ z
unfolding floor_div
floor_exact (pos n) d h = ap pos (mul-div_cancel n h)
floor_exact (negsuc n) d h = sym (neg_floor (suc n * d) d h) ∙ ap (λ (k : ℕ). neg_ℤ (pos k))
    (mul-add-div_right h (suc n) (d - 1) ∙ ap (λ (k : ℕ). suc n + k) (div-eq_of_lt {n = d - 1} {m = d} (omega arith)) ∙ add-zero (suc n))

-- a product of two integers divided, by their magnitudes
pub floor_differ : (a b : ℤ) (m d : ℕ) → m ≡ nat_abs a * nat_abs b → 0 < d → (not (non_neg a) ≡ not (non_neg b) → ⊥) → neg_ℤ (pos ((m + (d - 1)) / d)) ≡ floor_div
    (a *ℤ b) d
floor_differ (pos a) (pos b) m d e h n = absurd (n refl)
floor_differ (pos a) (negsuc b) m d e h n = ap (λ (k : ℕ). neg_ℤ (pos ((k + (d - 1)) / d))) e ∙ neg_floor (a * suc b) d h
floor_differ (negsuc a) (pos b) m d e h n = ap (λ (k : ℕ). neg_ℤ (pos ((k + (d - 1)) / d))) e ∙ neg_floor (suc a * b) d h
floor_differ (negsuc a) (negsuc b) m d e h n = absurd (n refl)

pub floor_agree : (a b : ℤ) (m d : ℕ) → m ≡ nat_abs a * nat_abs b → not (non_neg a) ≡ not (non_neg b) → pos (m / d) ≡ floor_div (a *ℤ b) d
unfolding floor_div
floor_agree (pos a) (pos b) m d e s = ap (λ (k : ℕ). pos (k / d)) e
floor_agree (pos a) (negsuc b) m d e s = absurd (false≢true s)
floor_agree (negsuc a) (pos b) m d e s = absurd (false≢true (sym s))
floor_agree (negsuc a) (negsuc b) m d e s = ap (λ (k : ℕ). pos (k / d)) e
