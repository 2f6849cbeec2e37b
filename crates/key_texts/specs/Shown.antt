-- What of a table's text is shown, and the column in which a named key stands.
use Rattle.std.specs.Prelude.{ℕ, ◌-◌, ◌≡◌, refl, cond, List, [], ◌∷◌, map, eqb, get_or}
use Rattle.lines.specs.Lines.{next_line}
use Rattle.lines.specs.Columns.{printable, part_of, divided, column_in}
use Rattle.kept.specs.Stored.{kept_start_column, kept_table_column}
use Rattle.key_rows.specs.KeyRows.{in_column}

-- a byte from 0x20 to 0x7E as it is, and any other as a question mark, so that none reaches a terminal as a command
unfoldable pub shown_as : ℕ → ℕ
shown_as b = cond (printable b) b 63

-- byte k of a text
abbrev pub shown_at : List ℕ → ℕ → ℕ
shown_at text k = shown_as (get_or text k 0)

-- the line that starts at a place of a table
abbrev pub line_in : List ℕ → (start : ℕ) → List ℕ
line_in table start = part_of table start (next_line table start).end

-- column k of it, from 1; the whole row, column 0, has no text of its own
unfoldable pub column_text : List ℕ → (start k : ℕ) → List ℕ
column_text table start k = cond (eqb k 0) [] (column_in (line_in table start) (divided (line_in table start)) (k - 1))

-- the text of column k of row i
abbrev pub text_of : List (List ℕ) → (halves bytes : List ℕ) → (i k : ℕ) → List ℕ
text_of texts halves bytes i k = column_text (get_or texts (in_column bytes kept_table_column i) []) (in_column halves kept_start_column i) k

-- the column in which a named key stands: 01 has ocf name by INTER, column 4, the row that NAME, column 1, names
unfoldable pub key_column : (reason column : ℕ) → ℕ
key_column reason column = cond (eqb reason 11) (cond (eqb column 4) 1 column) column

pub record Examples : Type 0 where
  -- "A", ESC, "~", DEL
  pub escaped : map shown_as (65 ∷ 27 ∷ 126 ∷ 127 ∷ []) ≡ 65 ∷ 63 ∷ 126 ∷ 63 ∷ []
  pub name : key_column 11 4 ≡ 1

pub examples : Examples
unfolding shown_as printable key_column
examples = record { escaped = refl; name = refl }
