-- `calibration::nearest::above` meets its contract.
use Rattle.calibration.specs.Nearest.{above}
use Rattle.calibration.proofs.WordLaws.{of_word}
use Rattle.calibration.proofs.nearest.above.Goals as goal

pub returns : goal.returns
unfolding above
returns c = of_word (above c.args.xs.now) c.args.v c.ranges.v.sfits c.nearest.ensures
