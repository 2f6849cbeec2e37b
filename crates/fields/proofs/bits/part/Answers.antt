-- `fields::bits::part` meets its contract: a shift of 1 by at most 8 loses nothing.
use native.Mathlib.Omega.{arith}
use Rattle.fields.proofs.BitLaws.{one_shl}
use Rattle.fields.proofs.bits.part.Goals as goal

pub returns : goal.returns
returns c = rw (one_shl c.args.take (omega arith))
