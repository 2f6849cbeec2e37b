-- `calibration::curve::off_end` meets its contract.
use Rattle.calibration.specs.Curve.{through, off_end, said_curve}
use Rattle.calibration.proofs.WordLaws.{of_word}
use Rattle.calibration.proofs.curve.off_end.Goals as goal

pub returns-in-Extrapolate : goal.returns-in-Extrapolate
unfolding off_end
returns-in-Extrapolate c = rw c.in-Extrapolate.is (of_word (through c.args.xs.now c.args.ys.now c.args.from c.args.to) c.args.x c.ranges.x.sfits c.line_through.ensures)

pub returns-in-Refuse : goal.returns-in-Refuse
unfolding off_end said_curve
returns-in-Refuse c = rw c.in-Refuse.is
