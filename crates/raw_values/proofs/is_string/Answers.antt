-- By the two type codes of strings.
use borrow.Author.Tests.{eq-eqb, ne_eqb}
use Rattle.raw_values.specs.RawValues.{is_string}
use Rattle.raw_values.proofs.is_string.Goals as goal

pub returns-then-ptc-eq7 : goal.returns-then-ptc-eq7
unfolding is_string
returns-then-ptc-eq7 c = rw (eq-eqb _ _ c.if-ptc-eq7.true)

pub returns : goal.returns
unfolding is_string
returns c = rw (ne_eqb _ _ c.if-ptc-eq7.false)
