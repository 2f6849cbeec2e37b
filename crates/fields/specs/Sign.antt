-- Two's complement.
use Rattle.std.specs.Prelude.{◌≡◌, refl, cond, ◌&&◌, List, [], ◌∷◌, ℕ, ◌-◌, ◌^◌, ltb, ℤ, pos, negsuc, ◌-ℤ◌, Option, Some, None, Result, Ok, Err}
use Rattle.fields.specs.Bits.{bit_at, number_at}
use Rattle.fields.specs.Place.{bit_inside, inside}
use Rattle.laws.specs.Said.{Said, value, free}
use Rattle.fields.specs.Field.{is_width, field_at, said_error}
use Rattle.fields.specs.declared.field.FieldError.{FieldError}

-- 01: "PTC 4 is two's complement."
-- the integer that n bits are which make the number v: v where the first bit is 0, else v less 2 ^ n
unfoldable pub complement_of : ℕ → ℕ → ℤ
complement_of n v = cond (ltb v (2 ^ (n - 1))) (pos v) (pos v -ℤ pos (2 ^ n))

-- the same, where a field of n bits can hold v
unfoldable pub complement_at : ℕ → ℕ → Said
complement_at n v = cond (is_width n && ltb v (2 ^ n)) (value (complement_of n v)) free

unfoldable pub said_complement : Option ℤ → Said
said_complement (Some z) = value z
said_complement None = free

-- the n bits from bit `at`, as a signed number
unfoldable pub signed_at : List ℕ → ℕ → ℕ → Said
signed_at p at n = field_at (complement_of n) p at n

unfoldable pub said_signed : Result ℤ FieldError → Said
said_signed (Ok z) = value z
said_signed (Err error) = said_error error

-- four bits: 0111 is 7, 1000 is -8, and 16 has no four bits
four_bits : (complement_at 4 7 ≡ value (pos 7)) × (complement_at 4 8 ≡ value (negsuc 7)) × (complement_at 4 16 ≡ free)
unfolding complement_at complement_of is_width
four_bits = (refl, refl, refl)

-- the first four bits of 85 are 1000
first_of_85 : signed_at (0x85 ∷ []) 0 4 ≡ value (negsuc 7)
unfolding signed_at complement_of field_at is_width inside bit_inside number_at bit_at
first_of_85 = refl
