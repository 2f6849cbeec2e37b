-- The sequence count in a packet's line.
use Rattle.std.specs.Prelude.{ℕ, ◌≡◌, refl, List, [], ◌∷◌, pos, negsuc}
use Rattle.laws.specs.Said.{Said, value, refused, free}
use Rattle.fields.specs.Bits.{bit_at, number_at}
use Rattle.fields.specs.Place.{bit_inside, inside}
use Rattle.fields.specs.Field.{is_width, field_at, unsigned_at}

-- the number of a field, 0 where there is none
unfoldable pub field_number : Said → ℕ
field_number (value (pos n)) = n
field_number (value (negsuc n)) = 0
field_number (refused number) = 0
field_number free = 0

-- CCSDS 133.0: the last 14 bits of bytes 2 and 3, also of a packet that is refused
unfoldable pub sequence_count_in : List ℕ → ℕ
sequence_count_in p = field_number (unsigned_at p 18 14)

-- 01: "Last count 16,383"
last_count : sequence_count_in (0x08 ∷ 0x0A ∷ 0xFF ∷ 0xFF ∷ []) ≡ 16383
unfolding sequence_count_in field_number unsigned_at field_at is_width inside bit_inside number_at bit_at
last_count = refl
