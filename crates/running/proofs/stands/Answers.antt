-- No question waits.
use Rattle.std.proofs.Common.{refl}
use Rattle.running.specs.Script.{stood}
use Rattle.running.proofs.stands.Goals as goal

pub returns : goal.returns
unfolding stood
returns c = refl
