-- A number of 64 bits and a flag, as i64.
use Rattle.std.specs.Prelude.{ℕ, ◌-◌, ◌^◌, ◌≡◌, refl, Bool, true, false, cond, [], ◌∷◌, ltb, ℤ, pos, negsuc}

-- a number of 64 bits as the i64 of the same bits: itself below 2 ^ 63, and 2 ^ 64 less from there on
unfoldable pub word : ℕ → ℤ
word n = cond (ltb n (2 ^ 63)) (pos n) (negsuc (2 ^ 64 - 1 - n))

unfoldable pub flag_number : Bool → ℤ
flag_number false = pos 0
flag_number true = pos 1

-- the greatest i64, the next number, and the greatest of 64 bits
pub examples : (word 9223372036854775807 ∷ word 9223372036854775808 ∷ word 18446744073709551615 ∷ [])
    ≡ pos 9223372036854775807 ∷ negsuc 9223372036854775807 ∷ negsuc 0 ∷ []
unfolding word
examples = refl
