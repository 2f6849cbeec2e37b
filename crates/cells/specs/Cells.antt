-- The cell of a row: where it stands among the cells that an import writes.
use Rattle.std.specs.Prelude.{ℕ, suc, ◌+◌, ◌-◌, ◌≡◌, refl, Bool, true, false, cond, ◌&&◌, List, [], ◌∷◌, ltb, leb, length, get_or, Option, Some, None}
use Rattle.lines.specs.Lines.{on_first, lead, lines_of}
use Rattle.verdicts.specs.Answer.{first_table, too_long, too_many_rows}
use Rattle.verdicts.specs.Places.{text_at, rows_before, place}
use Rattle.verdicts.specs.Entries.{table_count}
use Rattle.tables.specs.Sizes.{Sized, fit, refused_by, sizes_of}
use Rattle.cells.specs.declared.TableCells.{TableCells}

abbrev pub is_fit : Sized → Bool
is_fit fit = true
is_fit (refused_by number place) = false

-- 01: "A refusal writes nothing": tables that an import refuses with 1 or 2 have no cells
unfoldable pub have_cells : List (List ℕ) → Bool
have_cells texts = is_fit (sizes_of texts)

-- n is the number of one of the tables, from 1
unfoldable pub is_table : ℕ → Bool
is_table n = ltb 0 n && leb n table_count

-- and r the number of one of its rows, from 1: `IsRow` as a test
unfoldable pub is_row : List (List ℕ) → (n r : ℕ) → Bool
is_row texts n r = is_table n && (ltb 0 r && leb r (length (lines_of (text_at texts (n - 1)))))

-- 01: "A finished import writes one cell per row, in table order": the cell of row r of table n
unfoldable pub cell_of : List (List ℕ) → (n r : ℕ) → Option ℕ
cell_of texts n r = cond (have_cells texts && is_row texts n r) (Some (place texts (n - 1) r)) None

abbrev pub no_cells : TableCells
no_cells = record { start = 0; end = 0 }

-- all cells of table n: they start after those of the tables before it, and end with its last row's
unfoldable pub cells_of : List (List ℕ) → ℕ → TableCells
cells_of texts n = cond (have_cells texts && is_table n) (record { start = rows_before texts (n - 1); end = rows_before texts n }) no_cells

-- the cell of row r among a table's cells: that of row 1 is the first.
-- By `cell_is` this is `cell_of` at the cells of `cells_of`
unfoldable pub cell_in : TableCells → ℕ → Option ℕ
cell_in cells r = cond (ltb 0 r && leb r (cells.end - cells.start)) (Some (cells.start + (r - 1))) None

-- what a cell says; 0 where there is none
abbrev pub verdict_in : List ℕ → Option ℕ → ℕ
verdict_in cells (Some i) = get_or cells i 0
verdict_in cells None = 0

-- two rows in pid, none in pic, and one in plf, which no line feed ends
abbrev three : List (List ℕ)
three = (65 ∷ 10 ∷ 66 ∷ 10 ∷ []) ∷ [] ∷ (67 ∷ []) ∷ []

pub record Examples : Type 0 where
  pub second : cell_of three 1 2 ≡ Some 1
  pub third : cell_of three 3 1 ≡ Some 2
  pub no_row : cell_of three 2 1 ≡ None
  pub no_table : cell_of three (suc table_count) 1 ≡ None
  pub from_one : cell_of three 0 1 ≡ None
  pub cells : cells_of three 3 ≡ record { start = 2; end = 3 }

pub examples : Examples
unfolding cell_of cells_of have_cells sizes_of is_table is_row place rows_before too_long too_many_rows first_table lines_of lead on_first
examples = record { second = refl; third = refl; no_row = refl; no_table = refl; from_one = refl; cells = refl }
