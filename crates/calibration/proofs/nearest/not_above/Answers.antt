-- `calibration::nearest::not_above` meets its contract.
use Rattle.calibration.specs.Nearest.{not_above}
use Rattle.calibration.proofs.WordLaws.{of_word}
use Rattle.calibration.proofs.nearest.not_above.Goals as goal

pub returns : goal.returns
unfolding not_above
returns c = of_word (not_above c.args.xs.now) c.args.v c.ranges.v.sfits c.nearest.ensures
