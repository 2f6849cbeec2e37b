-- Past the last cell there is none.
use Rattle.laws.proofs.Values.{past_end}
use Rattle.cells.proofs.verdict_in.Goals as goal

pub returns-then-at-cells : goal.returns-then-at-cells
returns-then-at-cells c = rw c.in-Some.is

pub returns-else-at-cells : goal.returns-else-at-cells
returns-else-at-cells c = rw c.in-Some.is (past_end c.args.cells.now _ 0 c.if-at-cells.false)
