-- By the format code.
use borrow.Author.Tests.{eq-eqb, ne_eqb}
use Rattle.wire_reals.specs.Reals.{bits_told}
use Rattle.wire_reals.proofs.bits_told.Goals as goal

pub returns-then-pfc-eq1 : goal.returns-then-pfc-eq1
unfolding bits_told
returns-then-pfc-eq1 c = rw (eq-eqb _ 1 c.if-pfc-eq1.true)

pub returns : goal.returns
unfolding bits_told
returns c = rw (ne_eqb _ 1 c.if-pfc-eq1.false)
