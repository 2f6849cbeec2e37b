-- Real numbers of MIL-STD-1750A: their exact value over whole numbers, and the bits of the double that has it.
use Rattle.std.specs.Prelude.{◌≡◌, refl, Bool, true, false, ℕ, ◌+◌, ◌-◌, ◌*◌, ◌/◌, ◌%◌, ◌^◌, ℤ, pos, negsuc, nat_abs, ◌-ℤ◌}
use Rattle.std.specs.Float.{fin, binary64}
use Rattle.std.specs.Float.Ieee.{up, down, round, of_bits, to_bits}
use Rattle.fields.specs.Sign.{complement_of}

-- mantissa × 2 ^ power
pub record MilReal : Type 0 where
  pub mantissa : ℤ
  pub power : ℤ

-- 02, P6: "signed low 8 bits − 23", "the power is exponent − 39": the exponent less one less than the mantissa's width
unfoldable pub power_of : (width exponent : ℕ) → ℤ
power_of width x = complement_of 8 x -ℤ pos (width - 1)

-- a signed mantissa times two to that power, once over the mantissa's width
abbrev pub real_of : (width mantissa exponent : ℕ) → MilReal
real_of width m x = record { mantissa = complement_of width m; power = power_of width x }

abbrev pub is_negative : ℤ → Bool
is_negative (pos n) = false
is_negative (negsuc n) = true

-- 02, P6: "State the exact value over whole numbers". The double of these bits is a number of the mantissa's sign, and
-- significand × 2 ^ exponent = |mantissa| × 2 ^ power, where 2 ^ e is the fraction up e / down e of whole numbers
pub record ExactDouble (r : MilReal) (bits : ℕ) : Type 0 where
  pub significand : ℕ
  pub exponent : ℤ
  pub double : of_bits binary64 bits ≡ fin (is_negative r.mantissa) significand exponent
  pub equal : significand * up exponent * down r.power ≡ nat_abs r.mantissa * up r.power * down exponent

-- the bits of the double nearest to it. 02, P6: "Both fit a double exactly": the laws `mil_exact` and `mil_only`
unfoldable pub double_bits : MilReal → ℕ
double_bits r = to_bits binary64 (round binary64 (is_negative r.mantissa) (nat_abs r.mantissa * up r.power) (down r.power))

-- of a mantissa and an exponent as they are on the wire
unfoldable pub mil_bits : (width mantissa exponent : ℕ) → ℕ
mil_bits width m x = double_bits (real_of width m x)

-- 02, P6: "PFC 3 is the signed top 24 bits times two to the power (signed low 8 bits − 23)"
unfoldable pub bits32 : ℕ → ℕ
bits32 v = mil_bits 24 (v / 2 ^ 8 % 2 ^ 24) (v % 2 ^ 8)

-- 02, P6: "For PFC 4 the mantissa is 40 bits, its low 16 bits following the exponent byte"
unfoldable pub bits48 : ℕ → ℕ
bits48 v = mil_bits 40 (v / 2 ^ 24 % 2 ^ 24 * 2 ^ 16 + v % 2 ^ 16) (v / 2 ^ 16 % 2 ^ 8)

pub record Examples : Type 0 where
  -- 02, P6: "`40 00 00 00` is 0.5"
  pub half : bits32 0x40000000 ≡ 0x3FE0000000000000
  pub minus_one : bits32 0x80000000 ≡ 0xBFF0000000000000
  -- "Mantissa 0 is plus zero", whatever the exponent
  pub zero : bits32 0x0000007F ≡ 0
  pub greatest : bits32 0x7FFFFF7F ≡ 0x47DFFFFFC0000000
  pub least : bits32 0x00000180 ≡ 0x3680000000000000
  -- "unnormalised inputs are accepted": 1 × 2 ^ (3 − 23), and −1 × 2 ^ −23
  pub unnormalised : bits32 0x00000103 ≡ 0x3EB0000000000000
  pub minus_unnormalised : bits32 0xFFFFFF00 ≡ 0xBE80000000000000
  -- the last bit of 40 follows the exponent byte
  pub long : bits48 0x400000000001 ≡ 0x3FE0000000004000
  pub long_minus : bits48 0xA00000FF0000 ≡ 0xBFD8000000000000
  pub long_greatest : bits48 0x7FFFFF7FFFFF ≡ 0x47DFFFFFFFFFC000

pub examples : Examples
unfolding bits32 bits48 mil_bits double_bits power_of complement_of round to_bits
examples =
    record {
      half = refl;
      minus_one = refl;
      zero = refl;
      greatest = refl;
      least = refl;
      unnormalised = refl;
      minus_unnormalised = refl;
      long = refl;
      long_minus = refl;
      long_greatest = refl;
    }
