-- `curves::line::product` meets its contract.
use native.Mathlib.Omega.{arith}
use Rattle.curves.proofs.LineLaws.{product_fits}
use Rattle.curves.proofs.line.product.Goals as goal

pub overflow_mul-result : goal.overflow_mul-result
overflow_mul-result c = omega (arith, product_fits c.args.rise c.args.over c.requires.0 c.requires.1)
