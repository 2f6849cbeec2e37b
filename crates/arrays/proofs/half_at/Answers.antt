use mathlib.Core.Path.{sym}
use lib.ListN.{get_or-eq_default}
use Rattle.arrays.proofs.half_at.Goals as goal

pub returns-else-i-halves : goal.returns-else-i-halves
returns-else-i-halves c = sym (get_or-eq_default c.args.halves.now 0 c.if-i-halves.false)
