-- `calibration::nearest::below` meets its contract.
use Rattle.calibration.specs.Nearest.{below}
use Rattle.calibration.proofs.WordLaws.{of_word}
use Rattle.calibration.proofs.nearest.below.Goals as goal

pub returns : goal.returns
unfolding below
returns c = of_word (below c.args.xs.now) c.args.v c.ranges.v.sfits c.nearest.ensures
