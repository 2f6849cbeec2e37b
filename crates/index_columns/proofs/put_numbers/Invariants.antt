-- The invariant: the first i places are put, and the number is that of the next row.
use Rattle.index_columns.proofs.PutLaws.{Putting}
use Rattle.index_columns.specs.Columns.{row_number_at}
use Rattle.database.specs.Arrays.{number_column}
use Prim.Native.Nat.{◌+◌, ◌≤◌}
use mathlib.Core.Path.{◌≡◌}
use Rattle.index_columns.proofs.put_numbers.Given as goal

abbrev pub invariant-loop-i : goal.invariant-loop-i
invariant-loop-i l =
    Putting (row_number_at l.tables) number_column l.n l.initial.columns l.columns l.i × (l.number ≡ row_number_at l.tables l.i) × (l.number ≤ l.i + 1)
