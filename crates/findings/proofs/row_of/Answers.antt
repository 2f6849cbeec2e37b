-- By the test.
use Rattle.findings.proofs.StepLaws.{row_none, row_some}
use Rattle.findings.proofs.row_of.Goals as goal

pub returns-then-more-eq0 : goal.returns-then-more-eq0
returns-then-more-eq0 c = row_none _ c.if-more-eq0.true

pub returns-else-more-eq0 : goal.returns-else-more-eq0
returns-else-more-eq0 c = row_some _ c.if-more-eq0.false
