-- By the format code: two are converted, and the bits of any other stay.
use mathlib.Core.Path.{◌≡◌}
use native.Mathlib.Omega.{arith}
use borrow.Author.Tests.{ne_eqb}
use Rattle.wire_reals.specs.Reals.{real_bits}
use Rattle.wire_reals.proofs.real_bits.Goals as goal

pub returns-in-3 : goal.returns-in-3
unfolding real_bits
returns-in-3 c = let e : c.args.pfc ≡ 3 = omega arith in rw e c.real32.ensures

pub returns-in-4 : goal.returns-in-4
unfolding real_bits
returns-in-4 c = let e : c.args.pfc ≡ 4 = omega arith in rw e c.real48.ensures

pub returns-in_default : goal.returns-in_default
unfolding real_bits
returns-in_default c = rw (ne_eqb _ 3 c.in_default.in_default-own.rest.0.1, ne_eqb _ 4 c.in_default.in_default-own.rest.1)
