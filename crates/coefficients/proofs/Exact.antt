-- The digits of a column and the powers of ten are doubles exactly, so that their product or quotient is rounded once.
use mathlib.Core.Path.{◌≡◌, refl, sym, ap, ◌∙◌, subst}
use mathlib.Core.Bool.{false}
use Prim.Native.Nat.{ℕ, zero, suc, ◌+◌, ◌*◌, ◌^◌, ◌≤◌, ◌<◌}
use native.Mathlib.Nat.{pow-suc, pow-le-pow_right, one-le-pow, lt_of_le_of_lt, lt_of_lt_of_le, mul_comm, mul_assoc, mul-one, mul-pos, mul-mul-mul_comm}
use native.Mathlib.Omega.{arith}
use lib.Dec.{lit<}
use lib.Pow.{pow-add, pow_mono, shl_lt}
use lib.Ieee.{Float, nan, inf, fin, binary64, up, down, round, mul, div, of_int}
use lib.Ieee.Fits.{down_pos}
use lib.Ieee.Exact.{HasValue, round_exact}
use lib.Ieee.Back.{round_whole}
use lib.Ieee.Scale.{round_same}
use lib.Ieee.Positive.{first_pos}
use borrow.Author.Tests.{ne_eqb}
use Rattle.coefficients.specs.Coefficient.{double}

-- 02, P1: "two exact doubles": the digits of a column of 14
pub digits_exact : (n : ℕ) → n < 10 ^ 14 → HasValue (double n) false n 1
unfolding of_int
digits_exact n h = round_whole binary64 false n (omega arith)

fives : (k : ℕ) → 10 ^ k ≡ 5 ^ k * 2 ^ k
fives zero = refl
fives (suc k) =
    pow-suc 10 k ∙ ap (λ (x : ℕ). x * 10) (fives k) ∙ rw (pow-suc 5 k, pow-suc 2 k) (sym (mul-mul-mul_comm (5 ^ k) 5 (2 ^ k) 2))

-- and a power of ten, up to 10 ^ 22
pub ten_exact : (k : ℕ) → k ≤ 22 → HasValue (double (10 ^ k)) false (10 ^ k) 1
unfolding of_int
ten_exact k h =
    let small : 5 ^ k < 2 ^ 53 = lt_of_le_of_lt (pow-le-pow_right {n = 5} (lit< tt) {i = k} {j = 22} h) (lit< tt) in
    round_exact binary64 false (10 ^ k) 1 (5 ^ k) (k + 1074) (lit< tt) small
    (lt_of_lt_of_le (shl_lt {a = 5 ^ k} 53 (k + 1074) small) (pow_mono {i = 53 + (k + 1074)} {j = 2098} (omega arith)))
    (ap (λ (x : ℕ). x * 2 ^ 1074) (fives k)
    ∙ mul_assoc (5 ^ k) (2 ^ k) (2 ^ 1074)
    ∙ ap (λ (x : ℕ). 5 ^ k * x) (sym (pow-add 2 k 1074))
    ∙ sym (mul-one (5 ^ k * 2 ^ (k + 1074))))

-- a product of two whole doubles
mul_whole : (x y : Float) (a b : ℕ) → HasValue x false a 1 → HasValue y false b 1 → mul binary64 x y ≡ round binary64 false (a * b) 1
unfolding mul
mul_whole nan y a b h k = elim h [ ]
mul_whole (inf _) y a b h k = elim h [ ]
mul_whole (fin s m e) nan a b h k = elim k [ ]
mul_whole (fin s m e) (inf _) a b h k = elim k [ ]
mul_whole (fin s m e) (fin t n d) a b h k =
    rw (h.0, k.0)
    (round_same binary64 false (m * up e * (n * up d)) (down e * down d) (a * b) 1 (mul-pos (down_pos e) (down_pos d)) (lit< tt)
    (mul-mul-mul_comm (m * up e) (n * up d) 1 1
    ∙ ap (λ (z : ℕ). z * (n * up d * 1)) h.1
    ∙ ap (λ (z : ℕ). a * down e * z) k.1
    ∙ mul-mul-mul_comm a (down e) b (down d)))

-- a quotient of two
div_whole : (x y : Float) (a b : ℕ) → 0 < b → HasValue x false a 1 → HasValue y false b 1 → div binary64 x y ≡ round binary64 false a b
unfolding div
div_whole nan y a b some h k = elim h [ ]
div_whole (inf _) y a b some h k = elim h [ ]
div_whole (fin s m e) nan a b some h k = elim k [ ]
div_whole (fin s m e) (inf _) a b some h k = elim k [ ]
div_whole (fin s m e) (fin t n d) a b some h k =
    let p : m * up e ≡ a * down e = sym (mul-one (m * up e)) ∙ h.1 in
    let q : n * up d ≡ b * down d = sym (mul-one (n * up d)) ∙ k.1 in
    let l : 0 < n * up d = subst (λ (z : ℕ). 0 < z) (sym q) (mul-pos some (down_pos d)) in
    let o : 0 < n = first_pos n (up d) l in
    rw (h.0, k.0, ne_eqb n 0 (λ z. omega arith))
    (round_same binary64 false (m * up e * down d) (n * up d * down e) a b (mul-pos l (down_pos e)) some
    (mul_assoc (m * up e) (down d) b
    ∙ ap (λ (z : ℕ). m * up e * z) (mul_comm (down d) b ∙ sym q)
    ∙ ap (λ (z : ℕ). z * (n * up d)) p
    ∙ mul_assoc a (down e) (n * up d)
    ∙ ap (λ (z : ℕ). a * z) (mul_comm (down e) (n * up d))))

-- so the one rounding is of the exact product, and of the exact quotient
module _ (n k : ℕ) (few : n < 10 ^ 14) (near : k ≤ 22) where
  pub nearest_product : mul binary64 (double n) (double (10 ^ k)) ≡ round binary64 false (n * 10 ^ k) 1
  nearest_product = mul_whole (double n) (double (10 ^ k)) n (10 ^ k) (digits_exact n few) (ten_exact k near)

  pub nearest_quotient : div binary64 (double n) (double (10 ^ k)) ≡ round binary64 false n (10 ^ k)
  nearest_quotient = div_whole (double n) (double (10 ^ k)) n (10 ^ k) (one-le-pow k 10 (lit< tt)) (digits_exact n few) (ten_exact k near)
