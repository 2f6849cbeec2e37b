-- A text's double is the one nearest to the decimal fraction that it writes.
use mathlib.Core.Path.{◌≡◌, refl, sym, ap, ◌∙◌, subst}
use mathlib.Core.List.{List}
use mathlib.Core.Bool.{false}
use Prim.Native.Nat.{ℕ, ◌+◌, ◌-◌, ◌*◌, ◌^◌, ◌≤◌, ◌<◌}
use native.Mathlib.Nat.{mul-one, mul_assoc, one-le-pow}
use native.Mathlib.Omega.{arith}
use lib.Dec.{lit<, leb}
use lib.Pow.{pow-add}
use lib.Ieee.{Float, binary64, round, mul, div}
use lib.Ieee.Exact.{HasValue}
use lib.Ieee.Scale.{round_same}
use borrow.Author.Tests.{leb-true, leb-false}
use Rattle.laws.proofs.Cases.{cond_cases}
use Rattle.notation.specs.Scientific.{parsed_of, Short}
use Rattle.notation.specs.declared.Scientific.{Scientific}
use Rattle.notation.specs.declared.Parsed.{Parsed}
use Rattle.notation.specs.declared.Parsed.TheVariants as written
use Rattle.notation.proofs.Room.{parsed_short}
use Rattle.coefficients.specs.Coefficient.{double, with_sign, scaled, up_of, down_of, double_of, valued, coefficient_of}
use Rattle.coefficients.specs.declared.Coefficient.{Coefficient}
use Rattle.coefficients.specs.declared.Coefficient.TheVariants.{Double, NotCoefficient, PowerOutOfRange, TooWide}
use Rattle.coefficients.proofs.Exact.{digits_exact, nearest_product, nearest_quotient}

-- the digits that a column writes are a double exactly
pub column_exact : (t : List ℕ) {n : Scientific} → parsed_of t ≡ written.Parts n → HasValue (double n.digits) false n.digits 1
column_exact t {n} e = digits_exact n.digits (parsed_short t e).digits

-- ten to a part of a power, times ten to the rest
tens : (a b : ℕ) → b ≤ a → 10 ^ (a - b) * 10 ^ b ≡ 10 ^ a
tens a b h = let e : a - b + b ≡ a = omega arith in sym (pow-add 10 (a - b) b) ∙ ap (λ (x : ℕ). 10 ^ x) e

-- the double nearest to n * 10 ^ a / 10 ^ b
abbrev pub nearest : ℕ → ℕ → ℕ → Float
nearest n a b = round binary64 false (n * 10 ^ a) (10 ^ b)

module _ (n a b : ℕ) (few : n < 10 ^ 14) where
  some : 0 < 10 ^ b
  some = one-le-pow b 10 (lit< tt)

  by_product : b ≤ a → a - b ≤ 22 → mul binary64 (double n) (double (10 ^ (a - b))) ≡ nearest n a b
  by_product h k =
      nearest_product n (a - b) few k
      ∙ round_same binary64 false (n * 10 ^ (a - b)) 1 (n * 10 ^ a) (10 ^ b) (lit< tt) some
      (mul_assoc n (10 ^ (a - b)) (10 ^ b) ∙ ap (λ (x : ℕ). n * x) (tens a b h) ∙ sym (mul-one (n * 10 ^ a)))

  by_quotient : a < b → b - a ≤ 22 → div binary64 (double n) (double (10 ^ (b - a))) ≡ nearest n a b
  by_quotient h k =
      nearest_quotient n (b - a) few k
      ∙ round_same binary64 false n (10 ^ (b - a)) (n * 10 ^ a) (10 ^ b) (one-le-pow (b - a) 10 (lit< tt)) some
      (let e : 10 ^ a * 10 ^ (b - a) ≡ 10 ^ b = sym (pow-add 10 a (b - a)) ∙ ap (λ (x : ℕ). 10 ^ x) (rejoin a b h) in
      ap (λ (x : ℕ). n * x) (sym e) ∙ sym (mul_assoc n (10 ^ a) (10 ^ (b - a))))
    where
      rejoin : (x y : ℕ) → x < y → x + (y - x) ≡ y
      rejoin x y l = omega arith

-- x is the nearest double to the numbers that are written, the minus last, and the power of ten is -22 to 22
pub record IsDouble (n : Scientific) (x : Float) : Type 0 where
  pub value : x ≡ with_sign n.negative (nearest n.digits (up_of n) (down_of n))
  pub highest : up_of n ≤ down_of n + 22
  pub lowest : down_of n ≤ up_of n + 22

-- what a coefficient is of the numbers that are written
abbrev IsNearest : Scientific → Coefficient → Type 0
IsNearest n (Double x) = IsDouble n x
IsNearest n NotCoefficient = Unit
IsNearest n PowerOutOfRange = Unit
IsNearest n TooWide = Unit

module _ (n : Scientific) (s : Short 14 n) where
  up_nearest : down_of n ≤ up_of n → up_of n - down_of n ≤ 22
      → IsDouble n (with_sign n.negative (mul binary64 (double n.digits) (double (10 ^ (up_of n - down_of n)))))
  up_nearest h k =
      record {
        value = ap (with_sign n.negative) (by_product n.digits (up_of n) (down_of n) s.digits h k);
        highest = omega arith;
        lowest = omega arith;
      }

  down_nearest : up_of n < down_of n → down_of n - up_of n ≤ 22
      → IsDouble n (with_sign n.negative (div binary64 (double n.digits) (double (10 ^ (down_of n - up_of n)))))
  down_nearest h k =
      record {
        value = ap (with_sign n.negative) (by_quotient n.digits (up_of n) (down_of n) s.digits h k);
        highest = omega arith;
        lowest = omega arith;
      }

  double_nearest : IsNearest n (double_of n)
  unfolding double_of scaled
  double_nearest =
      let a = up_of n in
      let b = down_of n in
      cond_cases (IsNearest n) (leb b a)
      (λ p. cond_cases (IsNearest n) (leb (a - b) 22) (λ q. up_nearest (leb-true b a p) (leb-true (a - b) 22 q)) (λ q. tt))
      (λ p. cond_cases (IsNearest n) (leb (b - a) 22) (λ q. down_nearest (leb-false b a p) (leb-true (b - a) 22 q)) (λ q. tt))

-- the numbers that a text writes, of which x is the nearest double
pub record Nearest (t : List ℕ) (x : Float) : Type 0 where
  pub parts : Scientific
  pub are : parsed_of t ≡ written.Parts parts
  pub is : IsDouble parts x

-- what is said of a text by its coefficient
abbrev Says : List ℕ → Coefficient → Type 0
Says t (Double x) = Nearest t x
Says t NotCoefficient = Unit
Says t PowerOutOfRange = Unit
Says t TooWide = Unit

says : (t : List ℕ) (n : Scientific) (c : Coefficient) → parsed_of t ≡ written.Parts n → IsNearest n c → Says t c
says t n (Double x) e h = record { parts = n; are = e; is = h }
says t n NotCoefficient e h = tt
says t n PowerOutOfRange e h = tt
says t n TooWide e h = tt

parsed_says : (t : List ℕ) (p : Parsed) → parsed_of t ≡ p → Says t (valued p)
unfolding valued
parsed_says t (written.Parts n) e = says t n (double_of n) e (double_nearest n (parsed_short t e))
parsed_says t written.NotCoefficient e = tt
parsed_says t written.TooWide e = tt

-- a text that is a double is the one nearest to what it writes, the minus last
pub text_nearest : (t : List ℕ) {x : Float} → coefficient_of t ≡ Double x → Nearest t x
unfolding coefficient_of
text_nearest t e = subst (Says t) e (parsed_says t (parsed_of t) refl)
