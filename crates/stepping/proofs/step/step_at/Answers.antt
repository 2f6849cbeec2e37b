-- By the time, and then by the values.
use Rattle.std.specs.Prelude.{Result}
use Rattle.outcomes.specs.declared.Refusal.{Refusal}
use Rattle.outcomes.proofs.OutcomeLaws.{told, then_refused}
use Rattle.accepting.specs.Accepted.{progress_of}
use Rattle.stepping.specs.Step.{step_at}
use Rattle.accepting.specs.Answer.{said_step}
use Rattle.accepting.proofs.TimeLaws.{answers_as}
use Rattle.stepping.proofs.AnswerLaws.{in_time_lem}
use Rattle.stepping.proofs.step.step_at.Goals as goal

pub returns-in-Ok : goal.returns-in-Ok
unfolding said_step progress_of
returns-in-Ok c = answers_as c.accept.ensures
    (in_time_lem _ _ _ _ _ _ _ _ (told (λ (a : Result (Unit {0}) Refusal). said_step a c.args.state) c.in_time.ensures c.in-Ok.is)
    c.check_parameter-checked.ensures)

pub returns-in-Err : goal.returns-in-Err
unfolding said_step step_at
returns-in-Err c = answers_as c.refuse.ensures
    (then_refused _ _ (told (λ (a : Result (Unit {0}) Refusal). said_step a c.args.state) c.in_time.ensures c.in-Err.is))
