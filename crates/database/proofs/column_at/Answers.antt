-- Past the end it is 0.
use native.Mathlib.Omega.{arith}
use Rattle.database.proofs.ColumnLaws.{past_end}
use Rattle.database.proofs.column_at.Goals as goal

pub returns-then-columns-i : goal.returns-then-columns-i
returns-then-columns-i c = (past_end c.args.columns.now c.args.column c.args.i c.if-columns-i.true, omega arith)
