-- By the byte.
use native.Mathlib.Omega.{arith}
use borrow.Author.Tests.{eq-eqb, ne_eqb}
use Rattle.tables.proofs.feed.Goals as goal

pub returns-then-byte-eq-LINE_FEED : goal.returns-then-byte-eq-LINE_FEED
returns-then-byte-eq-LINE_FEED c = (rw (eq-eqb _ 10 c.if-byte-eq-LINE_FEED.true), omega arith)

pub returns-else-byte-eq-LINE_FEED : goal.returns-else-byte-eq-LINE_FEED
returns-else-byte-eq-LINE_FEED c = (rw (ne_eqb _ 10 c.if-byte-eq-LINE_FEED.false), omega arith)
