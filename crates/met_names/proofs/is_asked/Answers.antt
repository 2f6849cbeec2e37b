-- By what was read.
use Rattle.met_names.proofs.StepLaws.{asked_none, asked_row}
use Rattle.met_names.proofs.is_asked.Goals as goal

pub returns-then-found-eq-NO_ROW : goal.returns-then-found-eq-NO_ROW
returns-then-found-eq-NO_ROW c = asked_none _ _ _ c.if-found-eq-NO_ROW.true

pub returns : goal.returns
returns c = asked_row _ _ _ c.if-found-eq-NO_ROW.false _ _ c.byte_at.ensures c.naming_kind.ensures _ c.meets.ensures
