-- `curves::ints::is_negative` meets its contract.
use mir.Syntax.{w64}
use mir.ValLaws.{to_z-of_z}
use Rattle.curves.proofs.IntLaws.{below_zero}
use Rattle.curves.proofs.ints.is_negative.Goals as goal

pub returns : goal.returns
returns c = rw (to_z-of_z w64 c.args.a c.ranges.a) (below_zero c.args.a)
