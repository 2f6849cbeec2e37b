-- Where a row stands that goes by its place among all rows, from 0.
use Rattle.std.specs.Prelude.{ℕ, ◌+◌, ◌-◌, ◌≡◌, refl, cond, ◌&&◌, List, ltb, leb}
use Rattle.kept.specs.Stored.{kept_table_column}
use Rattle.key_rows.specs.KeyRows.{in_column}
use Rattle.cells.specs.declared.TableCells.{TableCells}

-- the number of its table, from 1
abbrev pub table_number : (bytes : List ℕ) → ℕ → ℕ
table_number bytes i = in_column bytes kept_table_column i + 1

-- its own number, from 1, in the table whose cells these are; 0 where it is in another
unfoldable pub row_number : TableCells → ℕ → ℕ
row_number cells i = cond (leb cells.start i && ltb i cells.end) (i - cells.start + 1) 0

pub record Examples : Type 0 where
  pub third : row_number (record { start = 5; end = 9 }) 7 ≡ 3
  pub past : row_number (record { start = 5; end = 9 }) 9 ≡ 0

pub examples : Examples
unfolding row_number
examples = record { third = refl; past = refl }
