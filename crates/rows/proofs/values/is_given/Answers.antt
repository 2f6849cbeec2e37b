-- A text is given where it has a byte.
use Rattle.rows.proofs.ValueLaws.{given_not, given_is}
use Rattle.rows.proofs.values.is_given.Goals as goal

pub returns-then-text-eq0 : goal.returns-then-text-eq0
returns-then-text-eq0 c = given_not _ c.if-text-eq0.true

pub returns : goal.returns
returns c = given_is _ c.if-text-eq0.false
