-- Readings and their validity.
use Rattle.std.specs.Prelude.{ℕ, zero, suc, ◌≡◌, refl, Bool, true, false, not, cond, ◌&&◌, List, [], ◌∷◌, map, eqb, ℤ, pos, negsuc, Result, Ok, Err}
use Prim.Native.String.{String}
use Rattle.laws.specs.Text.{ascii, char}
use Rattle.numbers.specs.Number.{number_of, meaning, spelt, after, digit_on, digit_of}
use Rattle.lines.specs.Columns.{columns_of, columns_from}
use Rattle.name_bytes.specs.Names.{name_of, curve_name_of, same_bytes}
use Rattle.name_bytes.specs.declared.Name.{Name}
use Rattle.rows.specs.Values.{natural_from, natural_or, integer_from, integer_or, letter_of, is_given, optional_name, optional_curve, category_of, nature_of}
use Rattle.decoding.specs.Records.{column, plf_row, pcf_row}
use Rattle.rows.specs.declared.records.PcfRow.{PcfRow}
use Rattle.widths.specs.Width.{width_of, integer_width, bits_within}
use Rattle.fields.specs.Bits.{bit_at, number_at}
use Rattle.fields.specs.Place.{bit_inside, inside}
use Rattle.fields.specs.Field.{is_width, field_at, unsigned_at}
use Rattle.fields.specs.Sign.{complement_of, signed_at}
use Rattle.fields.specs.Figures.{packet}
use Rattle.outcomes.specs.Outcome.{Outcome, refused, answer, and_then}
use Rattle.outcomes.specs.Values.{Value, number, part, bits, value_of}
use Rattle.outcomes.specs.Refusals.{refused_by}
use Rattle.outcomes.specs.declared.Refusal.{Refusal}
use Rattle.verdicts.specs.Key.{key_words, same_key}
use Rattle.verdicts.specs.Facts.{facts_of, plf_facts, pcf_facts}
use Rattle.verdicts.specs.Answer.{most_rows}
use Rattle.database.specs.Rows.{Row, Rows}
use Rattle.database.specs.GoodRows.{holds_key, find, among}
use Rattle.wire_reals.specs.Reals.{is_real_type}
use Rattle.raw_values.specs.RawValues.{is_string, start_of, value_at, field_raw, raw_in, raw_of}
use Rattle.parameters.specs.Located.{by_lines, needed, located}
use Rattle.readings.specs.declared.Reading as code

-- a raw value, and whether it is valid
pub record Reading : Type 0 where
  pub value : Value
  pub valid : Bool

unfoldable pub same_integer : ℤ → ℤ → Bool
same_integer (pos m) (pos n) = eqb m n
same_integer (pos m) (negsuc n) = false
same_integer (negsuc m) (pos n) = false
same_integer (negsuc m) (negsuc n) = eqb m n

-- 01: "Validity compares raw values". A string and a real equal no number
unfoldable pub equals : Value → ℤ → Bool
equals (number z) valpar = same_integer z valpar
equals (part start bytes) valpar = false
equals (bits pattern width) valpar = false

-- 01: "is valid and equals the VALPAR"; "A validity parameter that can't be read makes it invalid"
unfoldable pub agrees : Outcome Reading → ℤ → Bool
agrees (refused n place) valpar = false
agrees (answer r) valpar = r.valid && equals r.value valpar

unfoldable pub with_validity : Bool → Value → Outcome Reading
with_validity valid v = answer (record { value = v; valid = valid })

module _ (rows : Rows) (p : List ℕ) (spid : ℕ) where
  -- the reading of occurrence k of a parameter, where it is known which rows' readings are valid
  unfoldable pub reading_with : (PcfRow → Bool) → Name → (k : ℕ) → Outcome Reading
  reading_with valid name k =
      and_then (located rows spid name) (λ at.
      and_then (raw_of p at.plf at.pcf k) (with_validity (valid at.pcf)))

  -- valid by a chain of at most n further rows
  unfoldable pub valid_within : ℕ → PcfRow → Bool
  valid_within zero row = not row.valid.given
  valid_within (suc n) row = cond row.valid.given (agrees (reading_with (valid_within n) row.valid.name 0) row.valpar) true

  abbrev pub reading_within : ℕ → Name → (k : ℕ) → Outcome Reading
  reading_within n name k = reading_with (valid_within n) name k

  -- 01: "A reading is valid only when its validity parameter's own reading, occurrence 0 of the same packet,
  -- is valid and equals the
  -- VALPAR of the reading's own pcf row; then it is valid, as is any reading whose row has no VALID".
  -- 01 takes no table of over 1,024 rows, so that a chain of good rows has at most as many; the laws `validity_law` and
  -- `validity_of_tables` say it with no number
  unfoldable pub validity : PcfRow → Bool
  validity row = valid_within most_rows row

  unfoldable pub reading : Name → (k : ℕ) → Outcome Reading
  reading name k = reading_with validity name k

-- the values, or 01's number and place, of a result
unfoldable pub said_reading : Result code.Reading Refusal → Outcome Reading
said_reading (Ok r) = answer (record { value = value_of r.value; valid = r.valid })
said_reading (Err refusal) = refused_by refusal

-- An example in 01's packet: TWO, unsigned 16 at byte 12, has VALID ONE, which is signed 8 at byte 10 and -1.
-- Here ";" stands for TAB
abbrev line : (table : ℕ) → String → Row
line table text = record { table = table; number = 1; start = 0; bytes = map (λ b. cond (eqb b (char ";")) 9 b) (ascii text) }

abbrev rows_with : (two one : String) → Rows
rows_with two one = among (line 2 "TWO;7;12;0" ∷ line 2 "ONE;7;10;0" ∷ line 3 two ∷ line 3 one ∷ [])

abbrev read_two : (two one : String) → Outcome Reading
read_two two one = reading (rows_with two one) packet 7 (name_of (ascii "TWO")) 0

abbrev is4660 : Bool → Outcome Reading
is4660 valid = answer (record { value = number (pos 4660); valid = valid })

pub record Examples : Type 0 where
  -- VALPAR -1
  pub valid : read_two "TWO;;;;3;12;;ONE;;N;R;;;;;;;-1" "ONE;;;;4;4;;;;N;R" ≡ is4660 true
  -- VALPAR 1, its default
  pub other_value : read_two "TWO;;;;3;12;;ONE;;N;R" "ONE;;;;4;4;;;;N;R" ≡ is4660 false
  -- ONE's own VALID returns to it
  pub circle : read_two "TWO;;;;3;12;;ONE;;N;R;;;;;;;-1" "ONE;;;;4;4;;ONE;;N;R;;;;;;;-1" ≡ is4660 false

pub examples : Examples
unfolding
    reading validity valid_within reading_with located needed by_lines and_then with_validity agrees equals same_integer
    among find holds_key facts_of plf_facts pcf_facts same_key key_words same_bytes
    plf_row pcf_row column columns_of columns_from name_of natural_or natural_from integer_or integer_from number_of meaning spelt after digit_on digit_of
    optional_name is_given optional_curve curve_name_of letter_of category_of nature_of
    raw_of raw_in start_of field_raw is_string is_real_type value_at width_of integer_width bits_within
    unsigned_at signed_at complement_of field_at is_width inside bit_inside number_at bit_at packet
examples = record { valid = refl; other_value = refl; circle = refl }
