-- `curves::ints::of_nat` meets its contract.
use mir.Syntax.{w64}
use mir.ValLaws.{to_z_pos}
use Rattle.curves.proofs.ints.of_nat.Goals as goal

pub returns : goal.returns
returns c = to_z_pos w64 c.args.n c.requires
