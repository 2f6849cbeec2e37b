-- By whether there are fewer.
use native.Mathlib.Omega.{arith}
use borrow.Author.Tests.{lt-ltb, le-ltb}
use Rattle.index_questions.specs.IndexReplies.{told_of}
use Rattle.index_questions.proofs.told_of.Goals as goal

pub returns-then-count-lt6 : goal.returns-then-count-lt6
unfolding told_of
returns-then-count-lt6 c = (rw (lt-ltb _ 6 c.if-count-lt6.true), omega arith)

pub returns : goal.returns
unfolding told_of
returns c = (rw (le-ltb _ 6 c.if-count-lt6.false), omega arith)
