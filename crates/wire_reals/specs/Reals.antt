-- The value of a field of PTC 5.
use Rattle.std.specs.Prelude.{ℕ, ◌≡◌, refl, Bool, cond, eqb, ℤ, pos, nat_abs}
use Rattle.std.specs.Float.Ieee.{round, to_bits}
use Rattle.fields.specs.Sign.{complement_of}
use Rattle.mil_reals.specs.Real.{power_of, double_bits, mil_bits, bits32, bits48}
use Rattle.outcomes.specs.Values.{Value, bits}

-- 02, P6: "Real numbers off the wire. PTC 5"
unfoldable pub is_real_type : ℕ → Bool
is_real_type ptc = eqb ptc 5

-- 02, P6: "PFC 1 and 2 are IEEE 754 single and double, answered as their bits; PFC 3 and 4 are MIL-STD-1750A":
-- the field's bits as they are, or those of the double that has its value
unfoldable pub real_bits : (pfc field : ℕ) → ℕ
real_bits pfc field = cond (eqb pfc 3) (bits32 field) (cond (eqb pfc 4) (bits48 field) field)

-- 02, P6: "bits with their width: 32 for PFC 1, else 64"
unfoldable pub bits_told : (pfc : ℕ) → ℕ
bits_told pfc = cond (eqb pfc 1) 32 64

-- by the number that the field's bits make
unfoldable pub real_value : (pfc : ℕ) → ℤ → Value
real_value pfc field = bits (real_bits pfc (nat_abs field)) (bits_told pfc)

pub record Examples : Type 0 where
  -- a NaN stays what it is, quiet or not
  pub single : real_value 1 (pos 0x7F800001) ≡ bits 0x7F800001 32
  pub double : real_value 2 (pos 0x7FF0000000000001) ≡ bits 0x7FF0000000000001 64
  -- "`40 00 00 00` is 0.5"; the same in 48 bits
  pub half : real_value 3 (pos 0x40000000) ≡ bits 0x3FE0000000000000 64
  pub long_half : real_value 4 (pos 0x400000000000) ≡ bits 0x3FE0000000000000 64

pub examples : Examples
unfolding real_value real_bits bits_told bits32 bits48 mil_bits double_bits power_of complement_of round to_bits
examples = record { single = refl; double = refl; half = refl; long_half = refl }
