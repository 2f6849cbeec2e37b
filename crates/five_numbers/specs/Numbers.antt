-- The five numbers of a packet, by which identification goes.
use Rattle.std.specs.Prelude.{ℕ, true, false, cond, ◌≡◌, refl, List, [], ◌∷◌, map, eqb, get_or, Some, None}
use Prim.Native.String.{String}
use Rattle.std.proofs.Math.Option.{Option, none, some}
use Rattle.laws.specs.Text.{ascii, char}
use Rattle.numbers.specs.Number.{digit_of, digit_on, after, spelt, meaning, number_of}
use Rattle.lines.specs.Columns.{columns_from, columns_of}
use Rattle.name_bytes.specs.Names.{same_bytes}
use Rattle.fields.specs.Bits.{bit_at, number_at}
use Rattle.fields.specs.Place.{bit_inside, inside}
use Rattle.fields.specs.Field.{is_width, field_at, unsigned_at}
use Rattle.fields.specs.Figures.{packet}
use Rattle.rows.specs.Values.{natural_from, natural_or, integer_from, integer_or, is_given, optional_apid, identification_field}
use Rattle.decoding.specs.Records.{column, pic_row}
use Rattle.verdicts.specs.Key.{identification, key_words, same_key}
use Rattle.verdicts.specs.Facts.{facts_of, pic_facts}
use Rattle.key_symbols.specs.declared.FiveNumbers.{FiveNumbers}
use Rattle.outcomes.specs.Outcome.{Outcome, refused, answer, and_then}
use Rattle.database.specs.Rows.{Row, Rows}
use Rattle.database.specs.GoodRows.{among, find, holds_key}
use Rattle.identifiers.specs.Identifiers.{read_identifier, identifier_at, identifiers_by}
use Rattle.headers.specs.declared.Head.{Head}
use Rattle.identifiers.specs.declared.Identifiers.{Identifiers}

-- 01: "Without the header flag, type, subtype, PI1 and PI2 are 0. With it, type and subtype are bytes 7 and 8"
abbrev pub type_of : Head → List ℕ → ℕ
type_of head p = cond head.flagged (get_or p 7 0) 0

abbrev pub subtype_of : Head → List ℕ → ℕ
subtype_of head p = cond head.flagged (get_or p 8 0) 0

unfoldable pub or_other : Option Row → Option Row → Option Row
or_other none other = other
or_other (some row) other = some row

-- 01: "the good pic row of these with this APID, else the one with none", for a packet with the header flag
unfoldable pub pic_row_of : Rows → Head → List ℕ → Option Row
pic_row_of rows head p =
    let ptype : ℕ = type_of head p in
    let stype : ℕ = subtype_of head p in
    cond head.flagged
    (or_other (rows.holder (identification ptype stype (Some head.apid))) (rows.holder (identification ptype stype None)))
    none

-- 01: "unused, or no such row, gives 0"
unfoldable pub identifiers_from : List ℕ → Option Row → Outcome Identifiers
identifiers_from p none = answer (record { pi1 = 0; pi2 = 0 })
identifiers_from p (some row) = identifiers_by p (pic_row row.bytes)

unfoldable pub numbers_of : Head → List ℕ → Identifiers → FiveNumbers
numbers_of head p pair =
    record { ptype = type_of head p; stype = subtype_of head p; apid = head.apid; pi1 = pair.pi1; pi2 = pair.pi2 }

unfoldable pub five_numbers : Rows → Head → List ℕ → Outcome FiveNumbers
five_numbers rows head p = and_then (identifiers_from p (pic_row_of rows head p)) (λ pair. answer (numbers_of head p pair))

-- Examples in 01's packet, whose APID is 10, by pic rows, in which ";" stands for TAB

abbrev pub example_row : (table number : ℕ) → String → Row
example_row table number text = record { table = table; number = number; start = 0; bytes = map (λ b. cond (eqb b (char ";")) 9 b) (ascii text) }

-- PI1 has 16 bits at byte 12, for this APID and no other
abbrev pub own_apid : Row
own_apid = example_row 1 1 "3;25;12;16;-1;0;10"

-- PI1 has 16 bits at byte 13
abbrev pub general : Row
general = example_row 1 2 "3;25;13;16;-1;0"

abbrev flagged_head : Head
flagged_head = record { flagged = true; apid = 10; count = 0 }

abbrev plain_head : Head
plain_head = record { flagged = false; apid = 10; count = 0 }

pub record Examples : Type 0 where
  pub own_first : five_numbers (among (general ∷ own_apid ∷ [])) flagged_head packet
      ≡ answer (record { ptype = 3; stype = 25; apid = 10; pi1 = 4660; pi2 = 0 })
  pub leaves : five_numbers (among (general ∷ [])) flagged_head packet ≡ refused 24 13
  pub no_row : five_numbers (among []) flagged_head packet ≡ answer (record { ptype = 3; stype = 25; apid = 10; pi1 = 0; pi2 = 0 })
  pub not_flagged : five_numbers (among (general ∷ [])) plain_head packet ≡ answer (record { ptype = 0; stype = 0; apid = 10; pi1 = 0; pi2 = 0 })

pub examples : Examples
unfolding
    five_numbers numbers_of identifiers_from pic_row_of or_other and_then identifiers_by identifier_at read_identifier
    among find holds_key facts_of pic_facts same_key key_words same_bytes
    pic_row column columns_of columns_from natural_or natural_from integer_or integer_from number_of meaning spelt after digit_on digit_of
    is_given optional_apid identification_field unsigned_at field_at is_width inside bit_inside number_at bit_at packet
examples = record { own_first = refl; leaves = refl; no_row = refl; not_flagged = refl }
