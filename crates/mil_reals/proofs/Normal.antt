-- A number whose highest set bit is brought to bit 52, and the double that it makes with a field of the exponent.
use mathlib.Core.Path.{◌≡◌, sym, ap, ◌∙◌, subst}
use mathlib.Core.Bool.{Bool, true, false, cond}
use Prim.Native.Nat.{ℕ, suc, ◌+◌, ◌-◌, ◌*◌, ◌/◌, ◌%◌, ◌^◌, ◌≤◌, ◌<◌}
use native.Mathlib.Nat.{le_trans, le_of_eq, lt_of_le_of_lt, lt_of_lt_of_le, lt_of_not-le, lt_irrefl, mul-le-mul_right, mul_assoc, mod-eq_of_lt}
use native.Mathlib.Omega.{arith}
use lib.Pow.{pow-add, pow_mono, shl_lt}
use lib.Count.{count_leading_zeros, leading_top}
use lib.Ieee.{Float, binary64, odd, of_fields, of_bits}
use lib.Ieee.Exact.{HasValue, odd_sign}
use borrow.Author.Tests.{le-leb, lt-leb, ne_eqb}

pow_lt_back : (i p : ℕ) → 2 ^ i < 2 ^ p → i < p
pow_lt_back i p h = lt_of_not-le (λ (g : p ≤ i). lt_irrefl (2 ^ i) (lt_of_lt_of_le h (pow_mono g)))

-- what the leading zeros of a number below 2 ^ 53 say
pub record Placed (a z : ℕ) : Type 0 where
  pub some : 11 ≤ z
  pub few : z ≤ 63
  pub low : 2 ^ 52 ≤ a * 2 ^ (z - 11)
  pub high : a * 2 ^ (z - 11) < 2 ^ 53

pub placed : (a : ℕ) → 0 < a → a < 2 ^ 53 → Placed a (count_leading_zeros 64 a)
placed a p h =
    let z = count_leading_zeros 64 a in
    let top = leading_top 64 a p (omega arith) in
    let j = top.0 in
    let e : z + suc j ≡ 64 = top.1 in
    let l : j < 53 = pow_lt_back j 53 (lt_of_le_of_lt top.2 h) in
    let k : j + (z - 11) ≡ 52 = omega arith in
    let k' : suc j + (z - 11) ≡ 53 = omega arith in
    record {
      some = omega arith;
      few = omega arith;
      low = subst (λ (x : ℕ). 2 ^ x ≤ a * 2 ^ (z - 11)) k (le_trans (le_of_eq (pow-add 2 j (z - 11))) (mul-le-mul_right (2 ^ (z - 11)) top.2));
      high = subst (λ (x : ℕ). a * 2 ^ (z - 11) < 2 ^ x) k' (shl_lt {a = a} (suc j) (z - 11) top.3);
    }

-- the shift loses nothing
pub kept : (a : ℕ) → 0 < a → a < 2 ^ 53 → (a * 2 ^ (count_leading_zeros 64 a - 11)) % 2 ^ 64 ≡ a * 2 ^ (count_leading_zeros 64 a - 11)
kept a p h = mod-eq_of_lt (omega (arith, (placed a p h).high))

same : {s s' : Bool} {x x' t t' : ℕ} → s ≡ s' → x ≡ x' → t ≡ t' → of_fields binary64 s x t ≡ of_fields binary64 s' x' t'
same p q r = rw (p, q, r)

-- bits that are made of a sign, a field x + 1 and the digits t are read as these
fields : (s : Bool) (x t : ℕ) → x < 2046 → t < 2 ^ 52 → of_bits binary64 (cond s (2 ^ 63) 0 + (suc x * 2 ^ 52 + t)) ≡ of_fields binary64 s (suc x) t
unfolding of_bits
fields false x t h k =
    let b = 0 + (suc x * 2 ^ 52 + t) in
    let f : b % 2 ^ 63 / 2 ^ 52 ≡ suc x = omega arith in
    let g : b % 2 ^ 52 ≡ t = omega arith in
    same (lt-leb (2 ^ 63) b (omega arith)) f g
fields true x t h k =
    let b = 2 ^ 63 + (suc x * 2 ^ 52 + t) in
    let f : b % 2 ^ 63 / 2 ^ 52 ≡ suc x = omega arith in
    let g : b % 2 ^ 52 ≡ t = omega arith in
    same (le-leb (2 ^ 63) b (omega arith)) f g

not_ones : (s : Bool) (x t : ℕ) → x < 2046 → of_fields binary64 s (suc x) t ≡ odd 53 s (2 ^ 52 + t) x 1074
unfolding of_fields
not_ones s x t h = rw (ne_eqb (suc x) 2047 (omega arith))

-- the value of these bits
read : (s : Bool) (x t : ℕ) → x < 2046 → t < 2 ^ 52 → HasValue (of_bits binary64 (cond s (2 ^ 63) 0 + (suc x * 2 ^ 52 + t))) s ((2 ^ 52 + t) * 2 ^ x) (2 ^ 1074)
read s x t h k =
    subst (λ (v : Float). HasValue v s ((2 ^ 52 + t) * 2 ^ x) (2 ^ 1074)) (sym (fields s x t h k ∙ not_ones s x t h)) (odd_sign 53 s (2 ^ 52 + t) x 1074)

-- the bits of a number whose leading zeros are z, in units of the least double times 2 ^ up
abbrev pub bits_at : ℕ → ℕ → ℕ → ℕ
bits_at a up z = (up + 12 - z) * 2 ^ 52 + (a * 2 ^ (z - 11) - 2 ^ 52)

module _ (a up : ℕ) (p : 0 < a) (h : a < 2 ^ 53) (l : 52 ≤ up) (m : up < 2000) where
  pub normal : (s : Bool) → HasValue (of_bits binary64 (cond s (2 ^ 63) 0 + bits_at a up (count_leading_zeros 64 a))) s (a * 2 ^ up) (2 ^ 1074)
  normal s =
      let z = count_leading_zeros 64 a in
      let d = a * 2 ^ (z - 11) in
      let x = up + 11 - z in
      let w = placed a p h in
      let f : suc x ≡ up + 12 - z = omega arith in
      let g : 2 ^ 52 + (d - 2 ^ 52) ≡ d = omega arith in
      let k : (z - 11) + x ≡ up = omega arith in
      let e : d * 2 ^ x ≡ a * 2 ^ up = mul_assoc a (2 ^ (z - 11)) (2 ^ x) ∙ ap (λ (n : ℕ). a * n) (sym (pow-add 2 (z - 11) x)) ∙ ap (λ (n : ℕ). a * 2 ^ n) k in
      subst (λ (n : ℕ). HasValue (of_bits binary64 (cond s (2 ^ 63) 0 + (n * 2 ^ 52 + (d - 2 ^ 52)))) s (a * 2 ^ up) (2 ^ 1074)) f
      (subst (λ (n : ℕ). HasValue (of_bits binary64 (cond s (2 ^ 63) 0 + (suc x * 2 ^ 52 + (d - 2 ^ 52)))) s n (2 ^ 1074)) (ap (λ (n : ℕ). n * 2 ^ x) g ∙ e)
      (read s x (d - 2 ^ 52) (omega arith) (omega arith)))
