-- `limits::severity::raise` meets its contract.
use native.Mathlib.Omega.{arith}
use Rattle.announced.specs.Announced.{raised}
use Rattle.announced.proofs.raise.Goals as goal

pub returns-then-run-lt99 : goal.returns-then-run-lt99
unfolding raised
returns-then-run-lt99 c = omega arith

pub returns-else-run-lt99 : goal.returns-else-run-lt99
unfolding raised
returns-else-run-lt99 c = omega arith
