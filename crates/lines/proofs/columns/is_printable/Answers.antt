-- The tests are those of the definition.
use native.Mathlib.Omega.{arith}
use borrow.Author.Tests.{le-leb, lt-leb}
use Rattle.lines.specs.Columns.{printable}
use Rattle.lines.proofs.columns.is_printable.Goals as goal

pub returns-then-b-ge32 : goal.returns-then-b-ge32
unfolding printable
returns-then-b-ge32 c = let b = c.args.b in rw (le-leb 32 b (omega arith))

pub returns : goal.returns
unfolding printable
returns c = let b = c.args.b in rw (lt-leb 32 b (omega arith))
