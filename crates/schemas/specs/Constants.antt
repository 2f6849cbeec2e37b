-- The schema of a table as constants keep it: a width, a mark and the number of a kind for each column.
use Rattle.std.specs.Prelude.{ℕ, ◌≤◌, ◌≡◌, List, [], ◌∷◌, length}
use Rattle.schemas.specs.declared.coded.ColumnCode.{ColumnCode}
use Rattle.column_checks.specs.Schema.{Column}
use Rattle.column_checks.specs.ColumnKinds.{column_from}

-- a column by what the code tells of it
abbrev pub coded : ColumnCode → Column
coded c = column_from c.width c.mark c.kind

unfoldable pub schema_from : List ℕ → List ℕ → List ℕ → List Column
schema_from [] ms ks = []
schema_from (w ∷ ws) [] ks = []
schema_from (w ∷ ws) (m ∷ ms) [] = []
schema_from (w ∷ ws) (m ∷ ms) (k ∷ ks) = column_from w m k ∷ schema_from ws ms ks

-- constants of one table: as many marks and kinds as widths, and no more than there is room for
pub record Alike (widths marks kinds : List ℕ) : Type 0 where
  pub few : length widths ≤ 24
  pub marked : length marks ≡ length widths
  pub kinded : length kinds ≡ length widths
