-- A product of two numbers of a line leaves room in a word.
use native.Mathlib.Omega.{arith}
use Rattle.raw_values.proofs.RawLaws.{offset_bounded}
use Rattle.raw_values.proofs.place.start_of.Goals as goal

pub overflow_mul-bits : goal.overflow_mul-bits
overflow_mul-bits c = omega (arith, offset_bounded c.args.k c.args.location.lgocc.0 (omega arith) (omega arith))

pub overflow_add-bits : goal.overflow_add-bits
overflow_add-bits c = omega (arith, offset_bounded c.args.k c.args.location.lgocc.0 (omega arith) (omega arith))

pub overflow_add-result : goal.overflow_add-result
overflow_add-result c = omega (arith, offset_bounded c.args.k c.args.location.lgocc.0 (omega arith) (omega arith))
