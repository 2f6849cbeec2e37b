-- Which packet it is.
use Rattle.std.specs.Prelude.{ℕ, ◌≡◌, refl, List, [], ◌∷◌, Result, Ok, Err}
use Rattle.std.proofs.Math.Option.{Option, none, some}
use Rattle.numbers.specs.Number.{digit_of, digit_on, after, spelt, meaning, number_of}
use Rattle.lines.specs.Columns.{columns_from, columns_of}
use Rattle.name_bytes.specs.Names.{same_bytes}
use Rattle.fields.specs.Bits.{bit_at, number_at}
use Rattle.fields.specs.Place.{bit_inside, inside}
use Rattle.fields.specs.Field.{is_width, field_at, unsigned_at}
use Rattle.fields.specs.Figures.{packet}
use Rattle.headers.specs.Header.{version, type_bit, length_field, flagged, apid, sequence_count, head_of}
use Rattle.rows.specs.Values.{natural_from, natural_or, integer_from, integer_or, letter_of, valid_of, is_given, optional_apid, identification_field}
use Rattle.decoding.specs.Records.{column, pid_row, pic_row}
use Rattle.verdicts.specs.Key.{key_words, same_key}
use Rattle.verdicts.specs.Facts.{facts_of, pid_keys, pid_facts, pic_facts}
use Rattle.key_symbols.specs.Bounded.{packet_of}
use Rattle.key_symbols.specs.declared.FiveNumbers.{FiveNumbers}
use Rattle.outcomes.specs.Outcome.{Outcome, refused, answer, and_then}
use Rattle.outcomes.specs.Refusals.{refused_by}
use Rattle.outcomes.specs.declared.Refusal.{Refusal}
use Rattle.database.specs.Rows.{Row, Rows}
use Rattle.database.specs.GoodRows.{among, find, holds_key}
use Rattle.identifiers.specs.Identifiers.{read_identifier, identifier_at, identifiers_by}
use Rattle.five_numbers.specs.Numbers.{or_other, pic_row_of, identifiers_from, numbers_of, five_numbers, example_row, own_apid, general}
use Rattle.headers.specs.declared.Head.{Head}
use Rattle.identification.specs.declared.Identity as found

-- the number of the pid row, its SPID, and the five numbers
pub record Identity : Type 0 where
  pub row : ℕ
  pub spid : ℕ
  pub numbers : FiveNumbers

-- 01: "25 no good VALID Y pid row"
unfoldable pub chosen : FiveNumbers → Option Row → Outcome Identity
chosen n none = refused 25 0
chosen n (some row) = answer (record { row = row.number; spid = (pid_row row.bytes).spid.0; numbers = n })

-- 01: "The five numbers choose the pid row"; "N rows have no key"
unfoldable pub choose_by : Rows → FiveNumbers → Outcome Identity
choose_by rows n = chosen n (rows.holder (packet_of n))

-- a packet whose header is known
unfoldable pub identify_headed : Rows → Head → List ℕ → Outcome Identity
identify_headed rows head p = and_then (five_numbers rows head p) (choose_by rows)

unfoldable pub identify_by : Rows → List ℕ → Outcome Identity
identify_by rows p = and_then (head_of p) (λ head. identify_headed rows head p)

-- 01's number and values of each case
unfoldable pub said_identified : Result found.Identity Refusal → Outcome Identity
said_identified (Ok id) = answer (record { row = id.row.0; spid = id.spid.0; numbers = id.numbers })
said_identified (Err refusal) = refused_by refusal

-- Examples of 01's packet: SPID 1,000 has PI1 4,660, and SPID 2,000 isn't VALID Y
abbrev spid1000 : Row
spid1000 = example_row 0 7 "3;25;10;4660;0;1000"

abbrev spid2000 : Row
spid2000 = example_row 0 8 "3;25;10;0;0;2000;;;;;;;N"

pub record Examples : Type 0 where
  pub identified : identify_by (among (spid1000 ∷ own_apid ∷ general ∷ [])) packet
      ≡ answer (record { row = 7; spid = 1000; numbers = record { ptype = 3; stype = 25; apid = 10; pi1 = 4660; pi2 = 0 } })
  pub no_pid_row : identify_by (among (spid1000 ∷ spid2000 ∷ [])) packet ≡ refused 25 0
  pub leaves : identify_by (among (spid1000 ∷ general ∷ [])) packet ≡ refused 24 13

pub examples : Examples
unfolding
    identify_by identify_headed choose_by chosen and_then five_numbers numbers_of identifiers_from pic_row_of or_other identifiers_by identifier_at read_identifier
    head_of version type_bit length_field flagged apid sequence_count
    among find holds_key facts_of pid_facts pid_keys pic_facts same_key key_words same_bytes
    pid_row pic_row column columns_of columns_from natural_or natural_from integer_or integer_from number_of meaning spelt after digit_on digit_of
    letter_of valid_of is_given optional_apid identification_field unsigned_at field_at is_width inside bit_inside number_at bit_at packet
examples = record { identified = refl; no_pid_row = refl; leaves = refl }
