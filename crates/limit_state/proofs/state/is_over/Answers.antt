-- `limits::state::is_over` meets its contract, test by test.
use borrow.Author.Tests.{lt-ltb, le-ltb}
use Rattle.limit_state.specs.State.{is_over}
use Rattle.limit_state.proofs.state.is_over.Goals as goal

pub returns-then-state-gt99 : goal.returns-then-state-gt99
unfolding is_over
returns-then-state-gt99 c = rw (lt-ltb _ _ c.if-state-gt99.true)

pub returns-then-state-gt2 : goal.returns-then-state-gt2
unfolding is_over
returns-then-state-gt2 c = rw (le-ltb _ _ c.if-state-gt99.false, lt-ltb _ _ c.if-state-gt2.true)

pub returns-then-state-gt2047 : goal.returns-then-state-gt2047
unfolding is_over
returns-then-state-gt2047 c = rw (le-ltb _ _ c.if-state-gt99.false, le-ltb _ _ c.if-state-gt2.false, lt-ltb _ _ c.if-state-gt2047.true)

pub returns : goal.returns
unfolding is_over
returns c = rw (le-ltb _ _ c.if-state-gt99.false, le-ltb _ _ c.if-state-gt2.false, le-ltb _ _ c.if-state-gt2047.false)
