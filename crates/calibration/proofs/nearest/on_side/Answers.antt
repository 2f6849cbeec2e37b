-- `calibration::nearest::on_side` meets its contract, side by side.
use lib.Signed.{lt_z, le_z}
use Rattle.calibration.specs.Nearest.{passes}
use Rattle.calibration.proofs.WordLaws.{of_words}
use Rattle.calibration.proofs.nearest.on_side.Goals as goal

pub returns-in-NotAbove : goal.returns-in-NotAbove
unfolding passes
returns-in-NotAbove c = rw c.in-NotAbove.is
    (of_words le_z c.args.x c.args.v c.ranges.x.sfits c.ranges.v.sfits c.at_most.ensures)

pub returns-in-Below : goal.returns-in-Below
unfolding passes
returns-in-Below c = rw c.in-Below.is
    (of_words lt_z c.args.x c.args.v c.ranges.x.sfits c.ranges.v.sfits c.less.ensures)

pub returns-in-Above : goal.returns-in-Above
unfolding passes
returns-in-Above c = rw c.in-Above.is
    (of_words lt_z c.args.v c.args.x c.ranges.v.sfits c.ranges.x.sfits c.less-in-Above.ensures)
