-- `polynomials::bits_of` meets its contract.
use Rattle.polynomials.proofs.Nans.{no_nan, nan_bits}
use Rattle.polynomials.proofs.bits_of.Goals as goal

pub float_to_bits-result : goal.float_to_bits-result
float_to_bits-result c = no_nan c.args.x c.if-x.false

pub returns-then-x : goal.returns-then-x
returns-then-x c = nan_bits c.args.x c.if-x.true
