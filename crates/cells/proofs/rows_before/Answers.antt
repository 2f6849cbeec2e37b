use Prim.Native.Nat.{◌≤◌}
use mathlib.Core.Path.{◌≡◌, refl}
use native.Mathlib.Omega.{arith}
use lib.ListN.{length}
use borrow.Author.Rules.{rules}
use Rattle.verdicts.specs.Places.{rows_before}
use Rattle.verdicts.specs.Entries.{table_count}
use Rattle.verdicts.specs.Answer.{most_rows}
use Rattle.tables.proofs.ArrayLaws.{count}
use Rattle.cells.proofs.CellLaws.{at_most, rows_more}
use Rattle.cells.proofs.rows_before.Goals as goal

pub loop-t-init : goal.loop-t-init
unfolding rows_before
loop-t-init c = (omega arith, omega arith, refl)

pub overflow_add-rows : goal.overflow_add-rows
overflow_add-rows c =
    let few : c.row_count-rows.result ≤ most_rows = let n : length c.args.tables ≡ table_count = search rules in
    at_most _ (count c.args.tables n) c.requires.0 _ _ _ (omega arith) c.table_at.ensures c.row_count-rows.ensures in
    omega (arith, few)

pub loop-t-preserved : goal.loop-t-preserved
loop-t-preserved c =
    let few : c.row_count-rows.result ≤ most_rows = let n : length c.args.tables ≡ table_count = search rules in
    at_most _ (count c.args.tables n) c.requires.0 _ _ _ (omega arith) c.table_at.ensures c.row_count-rows.ensures in
    let n : length c.args.tables ≡ table_count = search rules in
    let more = rows_more _ (count c.args.tables n) c.requires.0 _ _ _ (omega arith) c.table_at.ensures c.row_count-rows.ensures c.loop-t.invariant.2 in
    (omega arith, omega (arith, few), more)

pub returns : goal.returns
returns c = let e : c.loop-t.t ≡ c.args.u = omega (arith, c.loop-t.invariant.0) in
    (rw e at c.loop-t.invariant.2, omega arith)
