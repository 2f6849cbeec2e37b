use mathlib.Core.Path.{sym}
use lib.Seq.{set_out}
use Rattle.arrays.proofs.put_byte.Goals as goal

pub returns-then-bytes-i : goal.returns-then-bytes-i
returns-then-bytes-i c = sym (set_out _ _ _ c.if-bytes-i.true)
