-- A field of a packet, and what is read there.
use Rattle.std.specs.Prelude.{◌≡◌, refl, Bool, cond, ◌&&◌, List, [], ◌∷◌, ℕ, leb, ℤ, pos, Result, Ok, Err}
use Rattle.fields.specs.Bits.{bit_at, number_at}
use Rattle.fields.specs.Place.{bit_inside, inside}
use Rattle.laws.specs.Said.{Said, value, refused, free}
use Rattle.fields.specs.declared.field.FieldError.{FieldError}
use Rattle.fields.specs.declared.field.FieldError.TheVariants.{Outside, NoWidth}

-- the widths that a field can have: 1 to 64 bits
unfoldable pub is_width : ℕ → Bool
is_width n = leb 1 n && leb n 64

-- 01: "28 … a bit of the field lies outside"
-- the n bits from bit `at`, whose number means what `meant` says; 01 has no field of another width
unfoldable pub field_at : (ℕ → ℤ) → List ℕ → ℕ → ℕ → Said
field_at meant p at n = cond (is_width n) (cond (inside p at n) (value (meant (number_at p at n))) (refused 28)) free

-- 01: "read unsigned"
unfoldable pub unsigned_at : List ℕ → ℕ → ℕ → Said
unsigned_at p at n = field_at pos p at n

unfoldable pub said_error : FieldError → Said
said_error Outside = refused 28
said_error NoWidth = free

unfoldable pub said_unsigned : Result ℕ FieldError → Said
said_unsigned (Ok v) = value (pos v)
said_unsigned (Err error) = said_error error

-- the last bit of 85 is there, and is 1; a field of one bit more isn't there
last_of_85 : (unsigned_at (0x85 ∷ []) 7 1 ≡ value (pos 1)) × (unsigned_at (0x85 ∷ []) 7 2 ≡ refused 28) × (unsigned_at (0x85 ∷ []) 7 0 ≡ free)
unfolding unsigned_at field_at is_width inside bit_inside number_at bit_at
last_of_85 = (refl, refl, refl)
