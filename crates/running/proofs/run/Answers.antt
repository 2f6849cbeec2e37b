-- All areas are empty at first.
use Rattle.running.specs.Script.{tally_of}
use Rattle.running.proofs.run.Goals as goal

pub returns : goal.returns
unfolding tally_of
returns g c = cc
