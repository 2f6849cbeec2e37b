-- The power of an exponent, counted in units of the least double, 2 ^ -1074, and one value in both units.
use mathlib.Core.Path.{◌≡◌, refl, sym, ap, ◌∙◌}
use mathlib.Core.Bool.{Bool, true, false, cond}
use Prim.Native.Nat.{ℕ, zero, suc, ◌+◌, ◌-◌, ◌*◌, ◌^◌, ◌≤◌, ◌<◌}
use native.Mathlib.Nat.{mul-one, mul_assoc, mul_right_comm, eq_of_mul-eq-mul_right}
use native.Mathlib.Omega.{arith}
use lib.Dec.{ltb}
use lib.IntN.{ℤ, pos, negsuc, neg_ℤ, ◌+ℤ◌, +ℤ_assoc, pos-ne-negsuc}
use lib.Pow.{pow-add}
use lib.Ieee.{Float, fin, inf, nan, up, down}
use lib.Ieee.Exact.{HasValue}
use borrow.Author.Tests.{le-ltb, ltb-false}
use Rattle.fields.specs.Sign.{complement_of}
use Rattle.fields.proofs.SignLaws.{complement_low, complement_high}
use Rattle.mil_reals.specs.Real.{power_of}

-- 1074 less b
spared : (b : ℕ) → b ≤ 1074 → neg_ℤ (pos b) +ℤ pos 1074 ≡ pos (1074 - b)
spared zero h = refl
spared (suc b) h = rw (le-ltb 1074 (suc b) h)

less_up : (t k : ℕ) → suc k ≤ t → negsuc k +ℤ pos t ≡ pos (t - suc k)
less_up t k h = rw (le-ltb t (suc k) h)

module _ (width x : ℕ) (one : 1 ≤ width) (few : width ≤ 53) where
  from_least : power_of width x +ℤ pos 1074 ≡ complement_of 8 x +ℤ pos (1074 - (width - 1))
  unfolding power_of
  from_least =
      +ℤ_assoc (complement_of 8 x) (neg_ℤ (pos (width - 1))) (pos 1074) ∙ ap (λ (z : ℤ). complement_of 8 x +ℤ z) (spared (width - 1) (omega arith))

  pub up_power : x < 128 → power_of width x +ℤ pos 1074 ≡ pos (1075 - width + x)
  up_power h = from_least ∙ rw (← complement_low 8 x h) (ap pos (omega arith))

  pub down_power : 128 ≤ x → x < 256 → power_of width x +ℤ pos 1074 ≡ pos (819 - width + x)
  down_power h k =
      from_least
      ∙ rw (← complement_high 8 x (omega arith) h k) (less_up (1074 - (width - 1)) (127 - (x - 128)) (omega arith) ∙ ap pos (omega arith))

pos_inj : (a b : ℕ) → pos a ≡ pos b → a ≡ b
pos_inj a b e = cc

-- 2 ^ p as a fraction, from the whole number 2 ^ (p + 1074)
power_of_lem : (p : ℤ) (n : ℕ) → p +ℤ pos 1074 ≡ pos n → up p * 2 ^ 1074 ≡ 2 ^ n * down p
power_of_lem (pos k) n e = rw (← pos_inj (k + 1074) n e, pow-add 2 k 1074) (sym (mul-one (2 ^ k * 2 ^ 1074)))
power_of_lem (negsuc k) n e = go (ltb 1074 (suc k)) refl e
  where
    go : (t : Bool) → ltb 1074 (suc k) ≡ t → cond t (negsuc (suc k - 1075)) (pos (1074 - suc k)) ≡ pos n → 1 * 2 ^ 1074 ≡ 2 ^ n * 2 ^ suc k
    go true q r = absurd (pos-ne-negsuc n (suc k - 1075) (sym r))
    go false q r =
        let l : suc k ≤ 1074 = ltb-false 1074 (suc k) q in
        let s : 1074 - suc k ≡ n = pos_inj (1074 - suc k) n r in
        let u : 1074 ≡ n + suc k = omega arith in
        ap (λ (x : ℕ). 2 ^ x) u ∙ pow-add 2 n (suc k)

pub whole_power : (a : ℕ) (p : ℤ) (n : ℕ) → p +ℤ pos 1074 ≡ pos n → a * up p * 2 ^ 1074 ≡ a * 2 ^ n * down p
whole_power a p n e = mul_assoc a (up p) (2 ^ 1074) ∙ ap (λ (x : ℕ). a * x) (power_of_lem p n e) ∙ sym (mul_assoc a (2 ^ n) (down p))

-- a value is that of every fraction of the same size
pub same_size : (v : Float) (s : Bool) (a c b d : ℕ) → 0 < c → b * c ≡ a * d → HasValue v s a c → HasValue v s b d
same_size nan s a c b d p h w = elim w [ ]
same_size (inf _) s a c b d p h w = elim w [ ]
same_size (fin t m e) s a c b d p h w = (
  w.0,
  eq_of_mul-eq-mul_right c p (m * up e * d) (b * down e)
      (mul_right_comm (m * up e) d c
      ∙ ap (λ (x : ℕ). x * d) w.1
      ∙ mul_right_comm a (down e) d
      ∙ ap (λ (x : ℕ). x * down e) (sym h)
      ∙ mul_right_comm b c (down e)),
)
