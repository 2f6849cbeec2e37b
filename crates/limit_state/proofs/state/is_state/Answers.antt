-- `limits::state::is_state` meets its contract, by the laws of a state.
use mathlib.Core.Path.{sym, ◌∙◌}
use Rattle.limit_state.proofs.StateLaws.{over_no_state, fresh_state_lem, used_state}
use Rattle.limit_state.proofs.state.is_state.Goals as goal

pub returns-then-is_over : goal.returns-then-is_over
returns-then-is_over c = over_no_state _ (sym c.is_over.ensures ∙ c.if-is_over.true)

pub returns-then-state : goal.returns-then-state
returns-then-state c = fresh_state_lem _ _ (sym c.is_over.ensures ∙ c.if-is_over.false) c.if-state.true c.has_number.ensures

pub returns : goal.returns
returns c = used_state _ (sym c.is_over.ensures ∙ c.if-is_over.false) c.if-state.false
