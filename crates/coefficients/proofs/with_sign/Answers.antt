-- `coefficients::with_sign` meets its contract.
use Rattle.coefficients.specs.Coefficient.{with_sign}
use Rattle.coefficients.proofs.with_sign.Goals as goal

pub returns-then-negative : goal.returns-then-negative
unfolding with_sign
returns-then-negative c = rw c.if-negative.true

pub returns-else-negative : goal.returns-else-negative
unfolding with_sign
returns-else-negative c = rw c.if-negative.false
