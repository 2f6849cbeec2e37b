-- The text of a raw value.
use Rattle.std.specs.Prelude.{ℕ, ◌+◌, ◌-◌, ◌≡◌, refl, cond, List, [], ◌∷◌, ◌++◌, map, ℤ, pos, Some, None, Result, Ok, Err}
use Rattle.std.specs.Prelude as rust
use Rattle.std.proofs.Math.Option.{Option, none, some}
use Rattle.std.proofs.Math.ListN.{get_elem?}
use Rattle.std.specs.Int.Signed.{lt_z}
use Rattle.laws.specs.Text.{ascii}
use Rattle.name_bytes.specs.Names.{curve_name_of, same_bytes}
use Rattle.lines.specs.Columns.{tab, columns_from, columns_of, places_from, places_of}
use Rattle.name_bytes.specs.declared.CurveName.{CurveName}
use Rattle.numbers.specs.Number.{number_of, meaning, spelt, after, digit_on, digit_of}
use Rattle.rows.specs.Values.{integer_from, integer_or}
use Rattle.decoding.specs.Records.{column, txp_row}
use Rattle.rows.specs.declared.records.TxpRow.{TxpRow}
use Rattle.verdicts.specs.Key.{key_words, same_key, texts}
use Rattle.verdicts.specs.Facts.{txp_facts, facts_of}
use Rattle.calibration.specs.Nearest.{passes, nearer, closer, better, nearest_of, not_above}
use Rattle.outcomes.specs.Outcome.{Outcome, answer, refused}
use Rattle.outcomes.specs.Refusals.{refused_by}
use Rattle.database.specs.Rows.{Row, Rows}
use Rattle.database.specs.GoodRows.{is_in_group, among}
use Rattle.outcomes.specs.declared.Refusal.{Refusal}
use Rattle.texts.specs.declared.Text as code

-- a text by its txp row, the place of ALTXT in that table, and how many bytes it has
pub record Text : Type 0 where
  pub row : ℕ
  pub start : ℕ
  pub bytes : ℕ

unfoldable pub from_of : Row → ℤ
from_of row = (txp_row row.bytes).from

unfoldable pub to_of : Row → ℤ
to_of row = (txp_row row.bytes).to

-- the place of ALTXT in its line is counted on from where the line starts
unfoldable pub altxt_of : Row → Text
altxt_of row =
    let line : TxpRow = txp_row row.bytes in record { row = row.number; start = row.start + line.start; bytes = line.end - line.start }

-- the row that was found
unfoldable pub found_in : List Row → rust.Option ℕ → Option Row
found_in ranges None = none
found_in ranges (Some i) = get_elem? ranges i

-- 01: "if TO isn't below it"; "32 … no text"
unfoldable pub text_in : Option Row → ℤ → Outcome Text
text_in none raw = refused 32 0
text_in (some row) raw = cond (lt_z (to_of row) raw) (refused 32 0) (answer (altxt_of row))

-- 01: "A text is that of the greatest FROM not above the raw value"
unfoldable pub text_for : Rows → CurveName → ℤ → Outcome Text
text_for rows name raw = let ranges : List Row = rows.members (texts name) in text_in (found_in ranges (not_above (map from_of ranges) raw)) raw

-- 01's number and values of each case
unfoldable pub said_text : Result code.Text Refusal → Outcome Text
said_text (Ok t) = answer (record { row = t.row.0; start = t.start.0; bytes = t.bytes })
said_text (Err refusal) = refused_by refusal

-- the texts X, from 0 to 100, and Y, from 10 to 20, of the name A
abbrev two : Rows
two =
    among (
    record { table = 7; number = 1; start = 0; bytes = ascii "A" ++ tab ∷ ascii "0" ++ tab ∷ ascii "100" ++ tab ∷ ascii "X" }
    ∷ record { table = 7; number = 2; start = 10; bytes = ascii "A" ++ tab ∷ ascii "10" ++ tab ∷ ascii "20" ++ tab ∷ ascii "Y" }
    ∷ []
    )

-- 5 is X, 15 is Y, and 50 is none, though X reaches it
pub record Examples : Type 0 where
  pub first : text_for two (curve_name_of (ascii "A")) (pos 5) ≡ answer (record { row = 1; start = 8; bytes = 1 })
  pub second : text_for two (curve_name_of (ascii "A")) (pos 15) ≡ answer (record { row = 2; start = 18; bytes = 1 })
  pub past : text_for two (curve_name_of (ascii "A")) (pos 50) ≡ refused 32 0
  pub other : text_for two (curve_name_of (ascii "B")) (pos 5) ≡ refused 32 0

pub examples : Examples
unfolding
    text_for text_in found_in from_of to_of altxt_of among is_in_group facts_of txp_facts same_key key_words same_bytes curve_name_of
    txp_row column columns_of columns_from places_of places_from integer_or integer_from number_of meaning spelt after digit_on digit_of
    not_above nearest_of better closer nearer passes
examples = record { first = refl; second = refl; past = refl; other = refl }
