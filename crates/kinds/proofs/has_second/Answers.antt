-- By what was read.
use Rattle.kinds.proofs.StepLaws.{second_none, second_row_lem}
use Rattle.kinds.proofs.has_second.Goals as goal

pub returns-then-found-eq-NO_ROW : goal.returns-then-found-eq-NO_ROW
returns-then-found-eq-NO_ROW c = second_none _ _ _ c.if-found-eq-NO_ROW.true

pub returns : goal.returns
returns c = second_row_lem _ _ _ c.if-found-eq-NO_ROW.false _ c.byte_at.ensures _ c.is_second.ensures
