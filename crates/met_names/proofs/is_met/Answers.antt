-- By what was read.
use Rattle.met_names.proofs.StepLaws.{met_none, met_not, met_by}
use Rattle.met_names.proofs.is_met.Goals as goal

pub returns-then-code-eq0 : goal.returns-then-code-eq0
returns-then-code-eq0 c = met_none _ _ _ _ c.if-code-eq0.true

pub returns-then-is_asked : goal.returns-then-is_asked
returns-then-is_asked c = met_by _ _ _ _ c.if-code-eq0.false _ c.is_asked.ensures c.if-is_asked.true _ c.byte_at.ensures

pub returns : goal.returns
returns c = met_not _ _ _ _ c.if-code-eq0.false _ c.is_asked.ensures c.if-is_asked.false
