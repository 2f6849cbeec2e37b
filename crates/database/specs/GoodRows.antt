-- The good rows of tables.
use Rattle.std.specs.Prelude.{ℕ, suc, ◌+◌, ◌≡◌, refl, Bool, cond, List, [], ◌∷◌, ◌++◌, eqb, length}
use Rattle.std.proofs.Math.Option.{Option, none, some}
use Rattle.laws.specs.Lists.{any, keep}
use Rattle.laws.specs.Text.{ascii}
use Rattle.lines.specs.Lines.{Line, on_first, lead, lines_of}
use Rattle.schemas.specs.declared.Table.{Table}
use Rattle.verdicts.specs.Key.{Key, same_key}
use Rattle.verdicts.specs.Facts.{facts_of}
use Rattle.verdicts.specs.Entries.{carried, carried_at}
use Rattle.verdicts.specs.Places.{verdict_at}
use Rattle.database.specs.Rows.{Row, Rows}
use Rattle.database.specs.Packets.{is_packet_row}

-- the rows of table t, from its row r on, whose lines start at a byte
unfoldable pub rows_of : (t r start : ℕ) → List Line → List Row
rows_of t r start [] = []
rows_of t r start (l ∷ ls) =
    record { table = t; number = r; start = start; bytes = l.bytes } ∷ rows_of t (suc r) (start + length l.bytes + 1) ls

-- the rows of tables, the first of them table t. 01: "tables pid, pic, plf, … in that order"
unfoldable pub rows_from : (t : ℕ) → List Table → List (List ℕ) → List Row
rows_from t [] texts = []
rows_from t (table ∷ tables) [] = []
rows_from t (table ∷ tables) (text ∷ texts) = rows_of t 1 0 (lines_of text) ++ rows_from (suc t) tables texts

unfoldable pub rows_in : List (List ℕ) → List Row
rows_in texts = rows_from 0 carried texts

-- 01: "Good is 0"
unfoldable pub is_good : List (List ℕ) → Row → Bool
is_good texts row = eqb (verdict_at texts row.table row.number) 0

unfoldable pub good_rows : List (List ℕ) → List Row
good_rows texts = keep (is_good texts) (rows_in texts)

-- which table a row is of
abbrev pub table_of : Row → Table
table_of row = carried_at row.table

-- a row's columns hold a key, or say that it is counted in a group
unfoldable pub holds_key : Key → Row → Bool
holds_key key row = any (same_key key) (facts_of (table_of row) row.bytes).keys

unfoldable pub is_in_group : Key → Row → Bool
is_in_group group row = any (same_key group) (facts_of (table_of row) row.bytes).groups

-- the first row that passes
unfoldable pub find : (Row → Bool) → List Row → Option Row
find passes [] = none
find passes (row ∷ rows) = cond (passes row) (some row) (find passes rows)

-- what rows answer
unfoldable pub among : List Row → Rows
among rows =
    record {
      holder = λ key. find (holds_key key) rows;
      members = λ group. keep (is_in_group group) rows;
      numbered = λ number. find (is_packet_row number) rows;
    }

-- what the tables answer
unfoldable pub of_tables : List (List ℕ) → Rows
of_tables texts = among (good_rows texts)

-- two rows, of which the second has no line feed
example : rows_of 4 1 0 (lines_of (65 ∷ 66 ∷ 10 ∷ 67 ∷ []))
    ≡ record { table = 4; number = 1; start = 0; bytes = ascii "AB" } ∷ record { table = 4; number = 2; start = 3; bytes = ascii "C" } ∷ []
unfolding rows_of lines_of lead on_first
example = refl
