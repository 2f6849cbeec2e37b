-- The rows of the table follow those of the tables before it.
use Prim.Native.Nat.{◌≤◌}
use mathlib.Core.Path.{◌≡◌}
use native.Mathlib.Omega.{arith}
use lib.ListN.{length}
use borrow.Author.Rules.{rules}
use Rattle.verdicts.specs.Entries.{table_count}
use Rattle.verdicts.specs.Answer.{most_rows}
use Rattle.tables.proofs.ArrayLaws.{count}
use Rattle.cells.proofs.CellLaws.{at_most, rows_next}
use Rattle.cells.proofs.fitting.Goals as goal

pub overflow_add-end : goal.overflow_add-end
overflow_add-end c =
    let few : c.row_count-rows.result ≤ most_rows = let n : length c.args.tables ≡ table_count = search rules in
    at_most _ (count c.args.tables n) c.requires.0 _ _ _ c.requires.1 c.table_at.ensures c.row_count-rows.ensures in
    omega (arith, few, c.rows_before-start.ensures.1)

pub returns : goal.returns
returns c = let n : length c.args.tables ≡ table_count = search rules in record { start_value = c.rows_before-start.ensures.0; end_value = rows_next _ (count c.args.tables n) c.requires.0 _ _ _ c.requires.1 c.table_at.ensures c.row_count-rows.ensures c.rows_before-start.ensures.0 }
