-- By the test.
use borrow.Author.Tests.{lt-ltb, le-ltb}
use Rattle.chains.proofs.ends.longer.Goals as goal

pub returns-then-steps-lt32768 : goal.returns-then-steps-lt32768
returns-then-steps-lt32768 c = rw (lt-ltb _ _ c.if-steps-lt32768.true)

pub returns-else-steps-lt32768 : goal.returns-else-steps-lt32768
returns-else-steps-lt32768 c = rw (le-ltb _ _ c.if-steps-lt32768.false)
