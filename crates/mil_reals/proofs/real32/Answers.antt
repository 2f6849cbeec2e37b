-- Its mantissa and its exponent, at their widths.
use Rattle.mil_reals.specs.Real.{bits32}
use Rattle.mil_reals.proofs.real32.Goals as goal

pub returns : goal.returns
unfolding bits32
returns c = c.mil_bits.ensures
