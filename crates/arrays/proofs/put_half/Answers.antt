use mathlib.Core.Path.{sym}
use lib.Seq.{set_out}
use Rattle.arrays.proofs.put_half.Goals as goal

pub returns-then-halves-i : goal.returns-then-halves-i
returns-then-halves-i c = sym (set_out _ _ _ c.if-halves-i.true)
