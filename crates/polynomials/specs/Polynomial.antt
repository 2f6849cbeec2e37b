-- The value of a polynomial curve. `lib.Ieee` says over whole numbers what each operation gives: the exact value,
-- rounded once to the nearest double, a tie to the even one.
use Rattle.std.specs.Prelude.{◌≡◌, ℕ, ℤ, pos, negsuc, refl, Float}
use Rattle.std.specs.Float.{binary64}
use Rattle.std.specs.Float.Ieee.{add, mul, of_int, of_bits, to_bits}
use Rattle.polynomials.specs.declared.Polynomial.{Polynomial}

-- 02, P1: "multiply then add, each rounded once": a value v with one coefficient more, k
unfoldable pub multiply_add : (x v k : Float) → Float
multiply_add x v k = add binary64 (mul binary64 v x) k

-- 02, P1: "The value is worked out from POL5 down"
unfoldable pub horner : Polynomial → Float → Float
horner p x = multiply_add x (multiply_add x (multiply_add x (multiply_add x p.pol5 p.pol4) p.pol3) p.pol2) p.pol1

-- the value at a raw value, which is a double exactly: see `raw_exact`
unfoldable pub polynomial_at : Polynomial → ℤ → Float
polynomial_at p raw = horner p (of_int binary64 raw)

-- a curve by the bits of its coefficients
abbrev by_bits : ℕ → ℕ → ℕ → ℕ → ℕ → Polynomial
by_bits a b c d e =
    record {
      pol1 = of_bits binary64 a;
      pol2 = of_bits binary64 b;
      pol3 = of_bits binary64 c;
      pol4 = of_bits binary64 d;
      pol5 = of_bits binary64 e;
    }

-- 02, P1: "its bits are what is promised"
pub record Examples : Type 0 where
  -- 0.5 + 0.1 x + 0.01 x ^ 2 - 0.001 x ^ 3 + 3 x ^ 4 at -7
  pub at_minus_seven : to_bits binary64
      (polynomial_at (by_bits 0x3FE0000000000000 0x3FB999999999999A 0x3F847AE147AE147B 0xBF50624DD2F1A9FC 0x4008000000000000) (negsuc 6))
      ≡ 0x40BC23A20C49BA5E
  -- a straight line, 0.1 + 0.1 x, at 2: 0.30000000000000004
  pub line : to_bits binary64 (polynomial_at (by_bits 0x3FB999999999999A 0x3FB999999999999A 0 0 0) (pos 2)) ≡ 0x3FD3333333333334

pub examples : Examples
unfolding polynomial_at horner multiply_add add mul of_int of_bits to_bits
examples = record { at_minus_seven = refl; line = refl }
