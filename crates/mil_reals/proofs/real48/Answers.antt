-- Its mantissa in two parts and its exponent, at their widths.
use Rattle.mil_reals.specs.Real.{bits48}
use Rattle.mil_reals.proofs.real48.Goals as goal

pub returns : goal.returns
unfolding bits48
returns c = c.mil_bits.ensures
