-- `polynomials::evaluate` meets its contract: its operations are the definition's, at what `std` has for x.
use Rattle.std.proofs.Common.{ap, ◌∙◌, w64}
use lib.Ieee.{of_int, binary64}
use mir.ValLaws.{to_z-of_z}
use Rattle.polynomials.specs.Polynomial.{polynomial_at, horner, multiply_add}
use Rattle.polynomials.proofs.evaluate.Goals as goal

pub returns : goal.returns
unfolding polynomial_at horner multiply_add
returns c = ap (horner c.args.p) (c.nearest_i64_to_f64-x.ensures ∙ ap (of_int binary64) (to_z-of_z w64 c.args.raw c.ranges.raw))
