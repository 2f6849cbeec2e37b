-- By what was read.
use Rattle.kinds.proofs.StepLaws.{kinds_one, kinds_two}
use Rattle.kinds.proofs.kinds_of.Goals as goal

pub returns-then-has_second : goal.returns-then-has_second
returns-then-has_second c = kinds_one _ _ _ _ _ _ _ c.has_second.ensures _ c.if-has_second.true c.with_second.ensures

pub returns : goal.returns
returns c = kinds_two _ _ _ _ _ _ _ c.has_second.ensures _ c.if-has_second.false _ c.has_second-2.ensures
    c.with_second-2.ensures
