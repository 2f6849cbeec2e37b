-- Past the end it is 0.
use mathlib.Core.Path.{sym}
use lib.ListN.{get_or-eq_default}
use native.Mathlib.Omega.{arith}
use Rattle.row_order.proofs.row_in.Goals as goal

pub returns-else-k-order : goal.returns-else-k-order
returns-else-k-order c = sym (get_or-eq_default c.args.order.now 0 {n = c.args.k} (omega arith))
