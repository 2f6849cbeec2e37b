-- The first name, or the second in its place.
use borrow.Author.Tests.{eq-eqb, ne_eqb}
use Rattle.row_keys.proofs.parts.naming.Goals as goal

pub returns-then-one-eq0 : goal.returns-then-one-eq0
returns-then-one-eq0 c = rw (eq-eqb _ 0 c.if-one-eq0.true)

pub returns : goal.returns
returns c = rw (ne_eqb _ 0 c.if-one-eq0.false)
