-- By what is left up to the greatest number.
use Rattle.tallies.specs.Totals.{plus}
use borrow.Author.Tests.{le-leb, lt-leb}
use Rattle.tallies.proofs.plus.Goals as goal

pub returns-then-a-b : goal.returns-then-a-b
unfolding plus
returns-then-a-b c = rw (le-leb _ _ c.if-a-b.true)

pub returns : goal.returns
unfolding plus
returns c = rw (lt-leb _ _ c.if-a-b.false)
