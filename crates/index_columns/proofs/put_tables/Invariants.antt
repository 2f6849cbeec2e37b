-- The invariant: the first i places are put.
use Rattle.index_columns.proofs.PutLaws.{Putting}
use Rattle.database.specs.Arrays.{table_column}
use lib.ListN.{get_or}
use Rattle.index_columns.proofs.put_tables.Given as goal

abbrev pub invariant-loop-i : goal.invariant-loop-i
invariant-loop-i l = Putting (λ k. get_or l.tables k 0) table_column l.n l.initial.columns l.columns l.i
