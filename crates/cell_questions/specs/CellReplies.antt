-- The questions that lend cells and positions, and whether the line under them is the answer.
use Rattle.std.specs.Prelude.{ℕ, ◌+◌, ◌≡◌, refl, cond, List, [], ◌∷◌, eqb, ltb, length, get_or, take, drop, set, replicate}
use Rattle.laws.specs.Text.{ascii}
use Rattle.numbers.specs.Number.{number_of, answer_of, meaning, spelt, after, digit_on, digit_of}
use Rattle.lines.specs.Columns.{columns_of, columns_from, column_at}
use Rattle.verdicts.specs.Answer.{Imported, room_in, import_of, cells_after, positions_after, most_cells}
use Rattle.verdicts.specs.Entries.{table_count}
use Rattle.std.specs.Prelude as rust
use Rattle.scripts.specs.Words.{upto, setting_of}
use Rattle.scripts.specs.Numerals.{natural_in, natural_of, at_most}
use Rattle.answers.specs.declared.answer.Answer.{Answer}
use Rattle.comparing.specs.declared.compare.Verdict.{Verdict}
use Rattle.comparing.specs.declared.compare.Verdict.TheVariants.{Unread}
use Rattle.comparing.specs.Compared.{verdict_of}
use Rattle.replies.specs.Replies.{imported_answer, only_answer}

-- as many cells, or positions, as an import can write, not written yet
unfoldable pub blank_cells : List ℕ
blank_cells = replicate most_cells 65535

-- an answer in words on what an import left in lent cells and positions
unfoldable pub left_verdict : List (List ℕ) → (cells positions line : List ℕ) → Imported → Answer → Verdict
left_verdict texts cells positions line imported said =
    verdict_of said (get_or texts 7 []) (cells_after texts cells imported) (positions_after texts positions imported) line

-- an import into lent cells and positions
unfoldable pub import_verdict : List (List ℕ) → (cells positions line : List ℕ) → Verdict
import_verdict texts cells positions line =
    left_verdict texts cells positions line (import_of texts (room_in cells positions)) (imported_answer (import_of texts (room_in cells positions)))

-- CELLS: how many cells are lent, all where it isn't said
unfoldable pub cells_lent : (text : List ℕ) → rust.Option ℕ
cells_lent text = cond (eqb (length text) 0) (rust.Some most_cells) (at_most most_cells (natural_in (column_at (columns_of text) 0)))

-- CELLS|POSITIONS: how many positions are lent, as many as cells where it isn't said
unfoldable pub positions_lent : (text : List ℕ) → rust.Option ℕ
positions_lent text =
    cond (eqb (length (columns_of text)) 1) (cells_lent text)
    (cond (eqb (length (columns_of text)) 2) (at_most most_cells (natural_in (column_at (columns_of text) 1))) rust.None)

-- into the first of these cells and positions
unfoldable pub import_lent : List (List ℕ) → (cells positions line : List ℕ) → (room more : rust.Option ℕ) → Verdict
import_lent texts cells positions line (rust.Some room) (rust.Some more) = import_verdict texts (take room cells) (take more positions) line
import_lent texts cells positions line (rust.Some room) rust.None = Unread
import_lent texts cells positions line rust.None more = Unread

-- into as many as the text says
unfoldable pub import_in : List (List ℕ) → (cells positions text line : List ℕ) → Verdict
import_in texts cells positions text line = import_lent texts cells positions line (cells_lent text) (positions_lent text)

unfoldable pub import_reply : List (List ℕ) → (text line : List ℕ) → Verdict
import_reply texts text line = import_in texts blank_cells blank_cells text line

-- the cell and the position of a table's only row, all other tables being empty
unfoldable pub only_left : List (List ℕ) → (cells positions : List ℕ) → Imported → Answer
only_left texts cells positions imported =
    only_answer imported (get_or (cells_after texts cells imported) 0 0) (get_or (positions_after texts positions imported) 0 0)

unfoldable pub row_verdict : List (List ℕ) → (cells positions line : List ℕ) → Verdict
row_verdict texts cells positions line =
    left_verdict texts cells positions line (import_of texts (room_in cells positions))
    (only_left texts cells positions (import_of texts (room_in cells positions)))

unfoldable pub only_table : ℕ → List ℕ → List (List ℕ)
only_table t row = set (replicate table_count []) t row

-- TABLE|ROW
unfoldable pub row_reply : (text line : List ℕ) → Verdict
row_reply text line =
    cond (ltb (setting_of (take (upto 9 text) text)) table_count)
    (cond (ltb (upto 9 text) (length text))
    (row_verdict (only_table (setting_of (take (upto 9 text) text)) (drop (upto 9 text + 1) text)) blank_cells blank_cells line)
    Unread)
    Unread

-- how many are lent, a number of cells that isn't one, and the tables of a row of pic
pub record Examples (line : List ℕ) : Type 0 where
  pub all : positions_lent [] ≡ rust.Some most_cells
  pub alike : positions_lent (ascii "5") ≡ rust.Some 5
  pub fewer : positions_lent (ascii "5\t4") ≡ rust.Some 4
  pub too_many : positions_lent (ascii "1\t11265") ≡ rust.None
  pub no_positions : positions_lent (ascii "1\t") ≡ rust.None
  pub no_cells : import_reply [] (ascii "x") line ≡ Unread
  pub pic : take 3 (only_table 1 (ascii "A")) ≡ [] ∷ ascii "A" ∷ [] ∷ []

pub examples : (line : List ℕ) → Examples line
unfolding
    import_reply import_in import_lent cells_lent positions_lent only_table columns_of columns_from
    at_most natural_in natural_of number_of answer_of meaning spelt after digit_on digit_of
examples line =
    record { all = refl; alike = refl; fewer = refl; too_many = refl; no_positions = refl; no_cells = refl; pic = refl }
