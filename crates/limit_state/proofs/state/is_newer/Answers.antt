-- `limits::state::is_newer` meets its contract.
use borrow.Author.Tests.{lt-leb, le-leb}
use Rattle.limit_state.specs.State.{is_newer, ahead}
use Rattle.limit_state.proofs.state.is_newer.Goals as goal

pub returns-then-ahead-lt1 : goal.returns-then-ahead-lt1
unfolding is_newer ahead
returns-then-ahead-lt1 c = rw (lt-leb _ _ c.if-ahead-lt1.true)

pub returns : goal.returns
unfolding is_newer ahead
returns c = rw (le-leb _ _ c.if-ahead-lt1.false)
