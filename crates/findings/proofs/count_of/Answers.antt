-- By the tests.
use Rattle.findings.proofs.StepLaws.{count_none, count_same, count_differs}
use Rattle.findings.proofs.count_of.Goals as goal

pub returns-then-column-eq0 : goal.returns-then-column-eq0
returns-then-column-eq0 c = count_none _ _ _ c.if-column-eq0.true

pub returns-then-tally-number : goal.returns-then-tally-number
returns-then-tally-number c = count_same _ _ _ c.if-column-eq0.false c.if-tally-number.true

pub returns : goal.returns
returns c = count_differs _ _ _ c.if-column-eq0.false c.if-tally-number.false
