-- Each test says which case of `plain` holds.
use borrow.Author.Tests.{eq-eqb, ne_eqb}
use Rattle.escapes.specs.Escapes.{plain}
use Rattle.escapes.proofs.plain.Goals as goal

pub returns-then-c-eq124 : goal.returns-then-c-eq124
unfolding plain
returns-then-c-eq124 c = rw (eq-eqb _ _ c.if-c-eq124.true)

pub returns-else-c-eq124 : goal.returns-else-c-eq124
unfolding plain
returns-else-c-eq124 c = rw (ne_eqb _ _ c.if-c-eq124.false)
