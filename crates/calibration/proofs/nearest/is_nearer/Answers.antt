-- `calibration::nearest::is_nearer` meets its contract, side by side.
use Rattle.calibration.proofs.WordLaws.{of_words}
use lib.Signed.{lt_z}
use Rattle.calibration.specs.Nearest.{nearer}
use Rattle.calibration.proofs.nearest.is_nearer.Goals as goal

pub returns-in-NotAbove : goal.returns-in-NotAbove
unfolding nearer
returns-in-NotAbove c = rw c.in-NotAbove.is
    (of_words lt_z c.args.y c.args.x c.ranges.y.sfits c.ranges.x.sfits c.less.ensures)

pub returns-in-Below : goal.returns-in-Below
unfolding nearer
returns-in-Below c = rw c.in-Below.is
    (of_words lt_z c.args.y c.args.x c.ranges.y.sfits c.ranges.x.sfits c.less-in-Below.ensures)

pub returns-in-Above : goal.returns-in-Above
unfolding nearer
returns-in-Above c = rw c.in-Above.is
    (of_words lt_z c.args.x c.args.y c.ranges.x.sfits c.ranges.y.sfits c.less-in-Above.ensures)
