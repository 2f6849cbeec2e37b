-- By the packet that it is.
use Rattle.identification.specs.Identification.{said_identified}
use Rattle.outcomes.proofs.OutcomeLaws.{told, then_answer, then_refused}
use mathlib.Core.Path.{refl}
use Rattle.stepping.specs.Step.{step_headed}
use Rattle.accepting.proofs.TimeLaws.{answers_as}
use Rattle.stepping.proofs.step.step_headed.Goals as goal

pub returns-in-Ok : goal.returns-in-Ok
unfolding said_identified step_headed
returns-in-Ok c = answers_as c.step_of.ensures
    (then_answer _ (told said_identified c.identify_headed.ensures c.in-Ok.is) refl)

pub returns-in-Err : goal.returns-in-Err
unfolding said_identified step_headed
returns-in-Err c = answers_as c.refuse.ensures
    (then_refused _ _ (told said_identified c.identify_headed.ensures c.in-Err.is))
