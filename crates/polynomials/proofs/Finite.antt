-- With coefficients as they are read from good columns, and a raw value of 32 bits,
-- no operation gives an infinity or a NaN.
use Rattle.std.proofs.Common.{◌≡◌, ℕ, suc, ◌+◌, ◌*◌, ◌^◌, ◌<◌, ◌≤◌, Bool, true, false, not, T, List, ℤ, pos, negsuc, nat_abs, sym, refl, ap, ◌∙◌, subst, le_trans, le_of_eq, mul-le-mul_right, mul_assoc, mul_comm, mul-le-mul, arith, lit<, pow-add}
use native.Mathlib.Nat.{pow-le-pow_right, one-le-pow}
use lib.Ieee.{Float, binary64, mul, of_int, of_bits, is_nan}
use lib.Ieee.Exact.{HasValue}
use lib.Ieee.Back.{round_whole}
use Rattle.laws.specs.Text.{ascii}
use Rattle.notation.specs.Stages.{on_digit, in_digits, stage_after, stage_from, is_coefficient}
use Rattle.notation.specs.Scientific.{with_digit, with_character, scientific_from, parsed, parsed_of}
use Rattle.notation.proofs.Room.{parsed_short}
use Rattle.coefficients.specs.Coefficient.{with_sign, scaled, up_of, down_of, double_of, valued, coefficient_of}
use Rattle.coefficients.specs.declared.Coefficient.TheVariants.{Double}
use Rattle.coefficients.proofs.Nearest.{text_nearest}
use Rattle.polynomials.specs.Polynomial.{multiply_add, horner, polynomial_at}
use Rattle.polynomials.specs.declared.Polynomial.{Polynomial}
use Rattle.polynomials.proofs.Sizes.{Under, under_up, under_number, under_neg, under_round, under_mul, under_add, under_int}

-- ---- a coefficient

-- fourteen digits times ten to the power 22 are below 2 ^ 120
digits_small : (n a b : ℕ) → n < 10 ^ 14 → a ≤ b + 22 → n * 10 ^ a ≤ 2 ^ 120 * 10 ^ b
digits_small n a b few h =
    let l : n ≤ 10 ^ 14 = omega arith in
    let m : 10 ^ a ≤ 10 ^ (b + 22) = pow-le-pow_right {n = 10} (lit< tt) {i = a} {j = b + 22} h in
    le_trans (mul-le-mul l m)
    (le_trans (le_of_eq (ap (λ (x : ℕ). 10 ^ 14 * x) (pow-add 10 b 22 ∙ mul_comm (10 ^ b) (10 ^ 22)) ∙ sym (mul_assoc (10 ^ 14) (10 ^ 22) (10 ^ b))))
    (mul-le-mul_right (10 ^ b) (omega arith)))

sign_small : (k : ℕ) (m : Bool) (x : Float) → Under k x → Under k (with_sign m x)
unfolding with_sign
sign_small k false x u = u
sign_small k true x u = under_neg k x u

-- a coefficient that is read from a column is a number below 2 ^ 120 in size
pub coefficient_small : (t : List ℕ) {x : Float} → coefficient_of t ≡ Double x → Under 120 x
coefficient_small t e =
    let r = text_nearest t e in
    let n = r.parts in
    subst (Under 120) (sym r.is.value)
    (sign_small 120 n.negative _
    (under_round false (n.digits * 10 ^ up_of n) (10 ^ down_of n) 120 (one-le-pow (down_of n) 10 (lit< tt)) (omega arith)
    (digits_small n.digits (up_of n) (down_of n) (parsed_short t r.are).digits r.is.highest)))

-- ---- a raw value

abbrev pub is_negative : ℤ → Bool
is_negative (pos n) = false
is_negative (negsuc n) = true

-- a raw value is a double exactly
pub raw_exact : (z : ℤ) → nat_abs z ≤ 2 ^ 53 → HasValue (of_int binary64 z) (is_negative z) (nat_abs z) 1
unfolding of_int
raw_exact (pos n) h = round_whole binary64 false n h
raw_exact (negsuc n) h = round_whole binary64 true (suc n) h

-- ---- the polynomial

-- a coefficient as it is read from a column
pub record FromText (x : Float) : Type 0 where
  pub text : List ℕ
  pub reads : coefficient_of text ≡ Double x

-- 02, P1: "default 0": an empty column is as one that says 0
pub zero_from_text : FromText (of_bits binary64 0)
unfolding coefficient_of valued double_of scaled with_sign mul of_int of_bits
    parsed_of parsed is_coefficient scientific_from with_character with_digit stage_from stage_after in_digits on_digit
zero_from_text = record { text = ascii "0"; reads = refl }

pub record FromTexts (p : Polynomial) : Type 0 where
  pub pol1 : FromText p.pol1
  pub pol2 : FromText p.pol2
  pub pol3 : FromText p.pol3
  pub pol4 : FromText p.pol4
  pub pol5 : FromText p.pol5

text_small : {x : Float} → FromText x → Under 120 x
text_small c = coefficient_small c.text c.reads

-- one product and one sum
pub record Finite (i : ℕ) (x v k : Float) : Type 0 where
  pub product : Under (i + 32) (mul binary64 v x)
  pub sum : Under (i + 33) (multiply_add x v k)

finite : (i : ℕ) (x v k : Float) → 120 ≤ i → i ≤ 990 → Under 32 x → Under i v → Under 120 k → Finite i x v k
unfolding multiply_add
finite i x v k l h u w z =
    let p : Under (i + 32) (mul binary64 v x) = under_mul i 32 v x (omega arith) w u in
    let e : i + 33 ≡ i + 32 + 1 = omega arith in
    record {
      product = p;
      sum = subst (λ (j : ℕ). Under j (multiply_add x v k)) (sym e)
          (under_add (i + 32) (mul binary64 v x) k (omega arith) p (under_up {i = 120} {j = i + 32} k (omega arith) z));
    }

-- all four products and sums; the last sum is the value
pub record AllFinite (p : Polynomial) (x : Float) : Type 0 where
  pub at4 : Finite 120 x p.pol5 p.pol4
  pub at3 : Finite 153 x (multiply_add x p.pol5 p.pol4) p.pol3
  pub at2 : Finite 186 x (multiply_add x (multiply_add x p.pol5 p.pol4) p.pol3) p.pol2
  pub at1 : Finite 219 x (multiply_add x (multiply_add x (multiply_add x p.pol5 p.pol4) p.pol3) p.pol2) p.pol1

pub all_finite : (p : Polynomial) (z : ℤ) → FromTexts p → nat_abs z ≤ 2 ^ 32 → AllFinite p (of_int binary64 z)
all_finite p z m l =
    let x = of_int binary64 z in
    let u : Under 32 x = under_int z 32 (omega arith) l in
    let a = finite 120 x p.pol5 p.pol4 (omega arith) (omega arith) u (text_small m.pol5) (text_small m.pol4) in
    let b = finite 153 x _ p.pol3 (omega arith) (omega arith) u a.sum (text_small m.pol3) in
    let c = finite 186 x _ p.pol2 (omega arith) (omega arith) u b.sum (text_small m.pol2) in
    record { at4 = a; at3 = b; at2 = c; at1 = finite 219 x _ p.pol1 (omega arith) (omega arith) u c.sum (text_small m.pol1) }

-- so the value is a number, and no NaN
pub value_finite : (p : Polynomial) (z : ℤ) → FromTexts p → nat_abs z ≤ 2 ^ 32 → Under 252 (polynomial_at p z)
unfolding polynomial_at horner
value_finite p z m l = (all_finite p z m l).at1.sum

pub value_number : (p : Polynomial) (z : ℤ) → FromTexts p → nat_abs z ≤ 2 ^ 32 → T (not (is_nan (polynomial_at p z)))
value_number p z m l = under_number 252 (polynomial_at p z) (value_finite p z m l)
