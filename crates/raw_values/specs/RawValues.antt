-- The raw value of an occurrence of a parameter in a packet.
use Rattle.std.specs.Prelude.{ℕ, ◌+◌, ◌*◌, ◌/◌, ◌≤◌, ◌≡◌, refl, Bool, true, false, cond, ◌||◌, List, [], eqb, ltb, ℤ, pos, length, Result, Ok, Err}
use Rattle.std.proofs.Math.Option.{Option, some, none}
use Rattle.laws.specs.Said.{Said, value, refused as refused_with, free}
use Rattle.name_bytes.specs.Names.{name_of}
use Rattle.fields.specs.Bits.{bit_at, number_at}
use Rattle.fields.specs.Place.{bit_inside, inside}
use Rattle.fields.specs.Field.{is_width, field_at, unsigned_at}
use Rattle.fields.specs.Figures.{packet}
use Rattle.fields.specs.Sign.{signed_at}
use Rattle.string_fields.specs.Text.{string_at}
use Rattle.widths.specs.Width.{width_of, integer_width, real_width, bits_within}
use Rattle.rows.specs.declared.records.PlfRow.{PlfRow}
use Rattle.rows.specs.declared.records.PcfRow.{PcfRow}
use Rattle.outcomes.specs.Outcome.{Outcome, refused, answer}
use Rattle.outcomes.specs.Values.{Value, number, part, bits, value_of}
use Rattle.outcomes.specs.Refusals.{refused_by}
use Rattle.outcomes.specs.declared.Refusal.{Refusal}
use Rattle.outcomes.specs.declared.Value as code
use Rattle.wire_reals.specs.Reals.{is_real_type, real_bits, bits_told, real_value}
use Rattle.raw_values.specs.declared.place.Location.{Location}

-- 01: "Occurrence k, from 0, starts at bit 8 × OFFBY + OFFBI + k × LGOCC from the packet's first bit"
unfoldable pub start_of : PlfRow → ℕ → ℕ
start_of row k = 8 * row.offby.0 + row.offbi.0 + k * row.lgocc.0

-- the four numbers of the row that this takes
unfoldable pub location_of : PlfRow → Location
location_of row =
    record {
      offby = record { 0 = row.offby.0 };
      offbi = record { 0 = row.offbi.0 };
      nbocc = row.nbocc;
      lgocc = record { 0 = row.lgocc.0 };
    }

-- strings are of PTC 7 and 8
unfoldable pub is_string : ℕ → Bool
is_string ptc = eqb ptc 7 || eqb ptc 8

-- the widths that fields of a type have: a string some bytes, a real at most 64 bits, any other at most 32
pub record TypeWidth (ptc n : ℕ) : Type 0 where
  pub some : 1 ≤ n
  pub string : is_string ptc ≡ true → 8 ≤ n
  pub other : is_string ptc ≡ false → n ≤ 64
  pub integer : is_string ptc ≡ false → is_real_type ptc ≡ false → n ≤ 32

-- what is made of a field that starts at bit `at`. 01: "for 24,
-- 28 and 29 the byte in which the first such field starts"
unfoldable pub value_at : (at : ℕ) → (ℤ → Value) → Said → Outcome Value
value_at at make (value z) = answer (make z)
value_at at make (refused_with n) = refused n (at / 8)
value_at at make free = refused 26 0

-- 01: "A string is answered as the part of the packet it is"
abbrev pub packet_part : (at bytes : ℕ) → ℤ → Value
packet_part at bytes z = part (at / 8) bytes

-- a field of n bits from bit `at`. 01: "PTC 4 is two's complement"
unfoldable pub field_raw : List ℕ → (ptc pfc n at : ℕ) → Outcome Value
field_raw p ptc pfc n at =
    cond (is_string ptc) (value_at at (packet_part at (n / 8)) (string_at p at (n / 8)))
    (cond (is_real_type ptc) (value_at at (real_value pfc) (unsigned_at p at n))
    (value_at at number (cond (eqb ptc 4) (signed_at p at n) (unsigned_at p at n))))

-- 01: "27 … occurrence not below NBOCC". A pair of codes without a width, which no good row has, has no field
unfoldable pub raw_in : List ℕ → PlfRow → (ptc pfc k : ℕ) → Option ℕ → Outcome Value
raw_in p plf ptc pfc k none = refused 26 0
raw_in p plf ptc pfc k (some n) = cond (ltb k plf.nbocc) (field_raw p ptc pfc n (start_of plf k)) (refused 27 0)

-- 01: "20 packet under 7 or over 8,192 bytes"; "The least number decides"
unfoldable pub raw_of : List ℕ → PlfRow → PcfRow → (k : ℕ) → Outcome Value
raw_of p plf pcf k = cond (ltb 8192 (length p)) (refused 20 0) (raw_in p plf pcf.ptc pcf.pfc k (width_of pcf.ptc pcf.pfc))

-- the value, or 01's number and place, of a result
unfoldable pub said_raw : Result code.Value Refusal → Outcome Value
said_raw (Ok v) = answer (value_of v)
said_raw (Err refusal) = refused_by refusal

-- 01: "unsigned 16 at byte 12: 4,660": PTC 3 and PFC 12. A string that starts at a bit is refused,
-- and so is a second occurrence of one
abbrev at_byte : (byte bit : ℕ) → PlfRow
at_byte byte bit =
    record { name = name_of []; spid = record { 0 = 1 }; offby = record { 0 = byte }; offbi = record { 0 = bit }; nbocc = 1; lgocc = record { 0 = 0 } }

pub record Examples : Type 0 where
  pub unsigned : raw_in packet (at_byte 12 0) 3 12 0 (width_of 3 12) ≡ answer (number (pos 4660))
  pub string_at_a_bit : raw_in packet (at_byte 12 1) 7 1 0 (width_of 7 1) ≡ refused 29 12
  pub past_the_end : raw_in packet (at_byte 12 1) 3 12 0 (width_of 3 12) ≡ refused 28 12
  pub second : raw_in packet (at_byte 12 0) 3 12 1 (width_of 3 12) ≡ refused 27 0
  -- a real may start on any bit, and has all its bits in the packet
  pub real : raw_in packet (at_byte 9 1) 5 1 0 (width_of 5 1) ≡ answer (bits 0x01FF0A24 32)
  pub real_past_the_end : raw_in packet (at_byte 9 1) 5 2 0 (width_of 5 2) ≡ refused 28 9

pub examples : Examples
unfolding
    raw_in start_of field_raw is_string is_real_type real_value real_bits bits_told value_at width_of integer_width real_width bits_within
    string_at unsigned_at field_at is_width inside bit_inside number_at bit_at packet
examples = record { unsigned = refl; string_at_a_bit = refl; past_the_end = refl; second = refl; real = refl; real_past_the_end = refl }
