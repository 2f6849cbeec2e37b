-- The values of a row, stored at its place in each column.
use Rattle.std.specs.Prelude.{ℕ, suc, ◌+◌, ◌*◌, ◌≤◌, min, List, [], ◌∷◌, length, set}
use Rattle.arrays.specs.Room.{most_places}
use Rattle.row_keys.specs.declared.records.RowKeys.{RowKeys}
use Rattle.kept.specs.declared.interning.RowIds.{RowIds}

-- a value at the same place of column c and of each column after it
unfoldable pub put_columns : ℕ → List ℕ → ℕ → List ℕ → List ℕ
put_columns c columns i [] = columns
put_columns c columns i (v ∷ vs) = put_columns (suc c) (set columns (c * most_places + i) v) i vs

-- what is stored of a row, column by column
abbrev pub halves_of : RowKeys → RowIds → (start : ℕ) → List ℕ
halves_of r ids start =
    r.verdict ∷ ids.key1 ∷ ids.key2 ∷ ids.name1 ∷ ids.name2 ∷ ids.group ∷ min r.count.number 65535 ∷ start ∷ []

abbrev pub bytes_of : RowKeys → (table : ℕ) → List ℕ
bytes_of r table = r.one.code ∷ r.two.code ∷ r.marks ∷ r.count.column ∷ table ∷ []

-- so many numbers are all columns
abbrev pub all_halves : ℕ
all_halves = 8 * most_places

abbrev pub all_bytes : ℕ
all_bytes = 5 * most_places

-- the lent columns have all their places
pub record AllPlaces (hs bs : List ℕ) : Type 0 where
  pub halves : all_halves ≤ length hs
  pub bytes : all_bytes ≤ length bs
