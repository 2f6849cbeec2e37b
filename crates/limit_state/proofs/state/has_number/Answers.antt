-- `limits::state::has_number` meets its contract, test by test.
use borrow.Author.Tests.{eq-eqb, ne_eqb}
use Rattle.limit_state.specs.State.{has_number}
use Rattle.limit_state.proofs.state.has_number.Goals as goal

pub returns-then-state-ne0 : goal.returns-then-state-ne0
unfolding has_number
returns-then-state-ne0 c = rw (ne_eqb _ _ c.if-state-ne0.true)

pub returns-then-state-ne0-2 : goal.returns-then-state-ne0-2
unfolding has_number
returns-then-state-ne0-2 c = rw (eq-eqb _ _ c.if-state-ne0.false, ne_eqb _ _ c.if-state-ne0-2.true)

pub returns-then-state-ne0-3 : goal.returns-then-state-ne0-3
unfolding has_number
returns-then-state-ne0-3 c = rw (eq-eqb _ _ c.if-state-ne0.false, eq-eqb _ _ c.if-state-ne0-2.false, ne_eqb _ _ c.if-state-ne0-3.true)

pub returns : goal.returns
unfolding has_number
returns c = rw (eq-eqb _ _ c.if-state-ne0.false, eq-eqb _ _ c.if-state-ne0-2.false, eq-eqb _ _ c.if-state-ne0-3.false)
