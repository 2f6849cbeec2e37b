-- `coefficients::to_double` meets its contract.
use Rattle.coefficients.specs.Coefficient.{double_of}
use Rattle.coefficients.proofs.to_double.Goals as goal

pub returns-then-n : goal.returns-then-n
unfolding double_of
returns-then-n c = rw c.if-n.true c.scale.ensures

pub returns : goal.returns
unfolding double_of
returns c = rw c.if-n.false c.scale-2.ensures
