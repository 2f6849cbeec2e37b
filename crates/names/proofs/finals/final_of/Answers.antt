-- By what was read.
use Rattle.met_names.proofs.StepLaws.{final_base, final_one, final_two}
use Rattle.names.proofs.finals.final_of.Goals as goal

pub returns-then-base-ne0 : goal.returns-then-base-ne0
returns-then-base-ne0 c = final_base _ _ _ _ _ _ _ c.if-base-ne0.true

pub returns-then-one-ne0 : goal.returns-then-one-ne0
returns-then-one-ne0 c = final_one _ _ _ _ _ _ _ c.if-base-ne0.false _ c.name_verdict-one.ensures c.if-one-ne0.true

pub returns : goal.returns
returns c = final_two _ _ _ _ _ _ _ c.if-base-ne0.false _ c.name_verdict-one.ensures c.if-one-ne0.false _
    c.name_verdict.ensures
