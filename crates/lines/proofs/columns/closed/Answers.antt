-- The line ends in front of a byte, its line feed, or where the text ends.
use borrow.Author.Tests.{lt-ltb, le-ltb}
use Rattle.lines.proofs.columns.closed.Goals as goal

pub returns-then-end-text : goal.returns-then-end-text
returns-then-end-text c = rw (lt-ltb _ _ c.if-end-text.true)

pub returns : goal.returns
returns c = rw (le-ltb _ _ c.if-end-text.false)
