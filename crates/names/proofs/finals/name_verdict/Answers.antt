-- By what was read.
use Rattle.met_names.proofs.StepLaws.{name_met, name_unmet}
use Rattle.names.proofs.finals.name_verdict.Goals as goal

pub returns-then-is_met : goal.returns-then-is_met
returns-then-is_met c = name_met _ _ _ _ _ c.is_met.ensures c.if-is_met.true

pub returns : goal.returns
returns c = name_unmet _ _ _ _ _ c.is_met.ensures c.if-is_met.false _ c.naming_column.ensures
