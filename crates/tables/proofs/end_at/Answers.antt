-- Past the end there is none.
use mathlib.Core.Path.{sym}
use native.Mathlib.Omega.{arith}
use lib.ListN.{get_or-eq_default}
use Rattle.tables.proofs.end_at.Goals as goal

pub returns-else-t-ends : goal.returns-else-t-ends
returns-else-t-ends c = sym (get_or-eq_default c.args.ends.now 0 {n = c.args.t} (omega arith))
