-- `lines::columns::keep_at` meets its contract: past the room, to set is to change nothing.
use mathlib.Core.Path.{sym}
use native.Mathlib.Omega.{arith}
use lib.Seq.{set_out}
use Rattle.lines.proofs.columns.keep_at.Goals as goal

pub returns-else-k-numbers : goal.returns-else-k-numbers
returns-else-k-numbers c = let a = c.args in sym (set_out a.numbers.now a.k a.number (omega arith))
