-- Test by test.
use mathlib.Core.Path.{sym, ◌∙◌}
use Rattle.outcomes.specs.Refusals.{refused_by, refusal_number, refusal_place}
use Rattle.accepting.specs.Answer.{said_step}
use Rattle.accepting.proofs.TimeLaws.{time_fresh, time_other, time_newer, time_old}
use Rattle.accepting.proofs.step.in_time.Goals as goal

pub returns-then-state : goal.returns-then-state
unfolding said_step
returns-then-state c = time_fresh _ _ c.if-state.true

pub returns-then-head-state : goal.returns-then-head-state
unfolding said_step refused_by refusal_number refusal_place
returns-then-head-state c = time_other _ _ c.if-state.false c.if-head-state.true

pub returns-then-is_newer : goal.returns-then-is_newer
unfolding said_step
returns-then-is_newer c = time_newer _ _ c.if-state.false c.if-head-state.false (sym c.is_newer.ensures ∙ c.if-is_newer.true)

pub returns-else-is_newer : goal.returns-else-is_newer
unfolding said_step refused_by refusal_number refusal_place
returns-else-is_newer c = time_old _ _ c.if-state.false c.if-head-state.false (sym c.is_newer.ensures ∙ c.if-is_newer.false)
