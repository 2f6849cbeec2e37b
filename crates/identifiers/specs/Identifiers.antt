-- PI1 and PI2 of a packet, by a pic row.
use Rattle.std.specs.Prelude.{ℕ, ◌*◌, ◌≡◌, refl, List, nat_abs, None}
use Rattle.laws.specs.Said.{Said, value, refused as refusedField, free}
use Rattle.fields.specs.Bits.{bit_at, number_at}
use Rattle.fields.specs.Place.{bit_inside, inside}
use Rattle.fields.specs.Field.{is_width, field_at, unsigned_at}
use Rattle.fields.specs.Figures.{packet}
use Rattle.rows.specs.declared.records.IdentificationField.{IdentificationField}
use Rattle.rows.specs.declared.records.IdentificationField.TheVariants.{Unused, At}
use Rattle.rows.specs.declared.records.PicRow.{PicRow}
use Rattle.outcomes.specs.Outcome.{Outcome, refused, answer, and_then}
use Rattle.identifiers.specs.declared.Identifiers.{Identifiers}

-- 01: "24 an identification field leaves the packet", at "the byte in which the first such field starts".
-- A width that no field has, which no good row gives, reads as nothing
unfoldable pub read_identifier : (byte : ℕ) → Said → Outcome ℕ
read_identifier byte (value z) = answer (nat_abs z)
read_identifier byte (refusedField n) = refused 24 byte
read_identifier byte free = answer 0

-- 01: "read unsigned from the first bit of the byte at the offset; unused … gives 0"; "Offset −1 means unused"
unfoldable pub identifier_at : List ℕ → IdentificationField → Outcome ℕ
identifier_at p (At byte width) = read_identifier byte.0 (unsigned_at p (byte.0 * 8) width)
identifier_at p Unused = answer 0

-- PI1 first, then PI2
unfoldable pub identifiers_by : List ℕ → PicRow → Outcome Identifiers
identifiers_by p row =
    and_then (identifier_at p row.pi1) (λ first.
    and_then (identifier_at p row.pi2) (λ second.
    answer (record { pi1 = first; pi2 = second })))

-- of 01's packet
abbrev fields_of : (first second : IdentificationField) → PicRow
fields_of first second = record { ptype = 3; stype = 25; pi1 = first; pi2 = second; apid = None }

abbrev bits16 : ℕ → IdentificationField
bits16 byte = At (record { 0 = byte }) 16

pub record Examples : Type 0 where
  -- 01: "Unsigned 16 at byte 12: 4,660"; "16 bits at byte 13: 28", which here is 24
  pub inside : identifier_at packet (bits16 12) ≡ answer 4660
  pub outside : identifier_at packet (bits16 13) ≡ refused 24 13
  pub unused : identifiers_by packet (fields_of Unused (bits16 12)) ≡ answer (record { pi1 = 0; pi2 = 4660 })
  pub first_outside : identifiers_by packet (fields_of (bits16 14) (bits16 13)) ≡ refused 24 14

pub examples : Examples
unfolding packet identifiers_by and_then identifier_at read_identifier unsigned_at field_at is_width inside bit_inside number_at bit_at
examples = record { inside = refl; outside = refl; unused = refl; first_outside = refl }
