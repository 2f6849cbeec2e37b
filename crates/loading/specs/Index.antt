-- What loading leaves in the arrays of the database.
use Rattle.std.specs.Prelude.{ℕ, suc, ◌+◌, ◌-◌, ◌<◌, ◌≡◌, List, eqb, get_or, replicate}
use Rattle.laws.specs.Prefix.{flag}
use Rattle.arrays.specs.Room.{most_places}
use Rattle.symbols.specs.Arrays.{most_symbols}
use Rattle.passes.specs.Holders.{Noted}
use Rattle.passes.specs.Groups.{Chained}
use Rattle.verdicts.specs.Places.{rows_before}
use Rattle.kept.specs.Stored as kept
use Rattle.kept.specs.Stored.{at, key1_column, key2_column, group_column}
use Rattle.judged.specs.Passes.{column_of}
use Rattle.database.specs.Arrays.{holder_column, first_column, next_column, number_column, table_column, start_column}

-- by what was kept of the rows (halves, bytes) and by the cells of their verdicts: only good rows are marked,
-- and what is marked is indexed
pub record Indexed (texts : List (List ℕ)) (halves bytes cells columns : List ℕ) (n : ℕ) : Type 0 where
  pub marks : List ℕ
  pub once : List ℕ
  pub holders : List ℕ
  pub firsts : List ℕ
  pub nexts : List ℕ
  pub marked : (i : ℕ) → i < n → get_or marks i 0 ≡ flag (eqb (get_or cells i 0) 0)
  pub first_keys : Noted marks (column_of halves key1_column) (replicate most_symbols 0) once n
  pub second_keys : Noted marks (column_of halves key2_column) once holders n
  pub groups : Chained marks (column_of halves group_column) (replicate most_symbols 0) (replicate most_places 0) firsts nexts 0 n
  pub holder : (id : ℕ) → id < most_symbols → get_or columns (holder_column + id) 0 ≡ get_or holders id 0
  pub first : (id : ℕ) → id < most_symbols → get_or columns (first_column + id) 0 ≡ get_or firsts id 0
  pub next : (i : ℕ) → i < n → get_or columns (next_column + i) 0 ≡ get_or nexts i 0
  pub number : (i : ℕ) → i < n → get_or columns (number_column + i) 0 ≡ suc (i - rows_before texts (at bytes kept.kept_table_column i))
  pub table : (i : ℕ) → i < n → get_or columns (table_column + i) 0 ≡ at bytes kept.kept_table_column i
  pub start : (i : ℕ) → i < n → get_or columns (start_column + i) 0 ≡ at halves kept.kept_start_column i
