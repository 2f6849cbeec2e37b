-- Past the end the element is 0.
use lib.IntN.{pos}
use lib.ListN.{get_or-eq_default}
use mathlib.Core.Path.{sym}
use native.Mathlib.Omega.{arith}
use Rattle.severity.proofs.limit_at.Goals as goal

pub returns-else-i-limits : goal.returns-else-i-limits
returns-else-i-limits c = sym (get_or-eq_default c.args.limits.now (pos 0) {n = c.args.i} (omega arith))
