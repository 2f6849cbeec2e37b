-- By whether the numbers are a state.
use Rattle.accepting.specs.Answer.{said_step}
use Rattle.offered_step.proofs.OfferedLaws.{step_of_state, step_of_none}
use Rattle.offered_step.proofs.limit_step_from.Goals as goal

pub returns-in-Some : goal.returns-in-Some
returns-in-Some c = step_of_state _ _ _ c.state_of.ensures _ c.in-Some.is c.limit_step.ensures.said

pub returns-in-None : goal.returns-in-None
unfolding said_step
returns-in-None c = step_of_none _ _ _ c.state_of.ensures c.in-None.is c.refuse_state.ensures
