-- Two tests.
use borrow.Author.Tests.{lt-ltb, le-ltb}
use Rattle.index_entries.proofs.is_row.Goals as goal

pub returns-then-row-gt0 : goal.returns-then-row-gt0
returns-then-row-gt0 c = simp (lt-ltb _ _ c.if-row-gt0.true)

pub returns : goal.returns
returns c = simp (le-ltb _ _ c.if-row-gt0.false)
