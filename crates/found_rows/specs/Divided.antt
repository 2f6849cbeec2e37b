-- Rows that were found and divided.
use Rattle.std.specs.Prelude.{ℕ, ◌≡◌, List, length}
use Rattle.lines.specs.Columns.{divided}
use Rattle.database.specs.Arrays.{row_at}

-- the line of row i, and where its columns end
pub record DividedRow (texts : List (List ℕ)) (columns : List ℕ) (i : ℕ) (line ends : List ℕ) : Type 0 where
  pub is_line : line ≡ (row_at texts columns i).bytes
  pub are_ends : ends ≡ divided line
  pub room : length ends ≡ 24
