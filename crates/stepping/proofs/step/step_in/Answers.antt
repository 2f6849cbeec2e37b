-- By the state, and then by the header.
use mathlib.Core.Path.{sym, ◌∙◌}
use Rattle.outcomes.specs.Refusals.{said, refused_by, refusal_number, refusal_place}
use Rattle.outcomes.proofs.OutcomeLaws.{told, then_refused}
use Rattle.accepting.proofs.TimeLaws.{answers_as}
use Rattle.stepping.proofs.AnswerLaws.{no_state_lem, with_head, of_state_lem}
use Rattle.stepping.proofs.step.step_in.Goals as goal

pub returns-then-not-is_state : goal.returns-then-not-is_state
unfolding refused_by refusal_number refusal_place
returns-then-not-is_state c = answers_as c.refuse.ensures (no_state_lem _ _ _ _ (sym c.is_state.ensures ∙ c.if-not-is_state.true))

pub returns-in-Ok : goal.returns-in-Ok
unfolding said
returns-in-Ok c = answers_as c.step_headed.ensures
    (of_state_lem _ _ _ _ (sym c.is_state.ensures ∙ c.if-not-is_state.false)
    (with_head _ _ _ _ (told said c.read_header.ensures c.in-Ok.is) c.name_of.ensures))

pub returns-in-Err : goal.returns-in-Err
unfolding said
returns-in-Err c = answers_as c.refuse-in-Err.ensures
    (of_state_lem _ _ _ _ (sym c.is_state.ensures ∙ c.if-not-is_state.false)
    (then_refused _ _ (told said c.read_header.ensures c.in-Err.is)))
