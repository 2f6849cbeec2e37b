-- Error by error.
use Rattle.calibration.specs.Curve.{of_line}
use Rattle.calibration.proofs.curve.CurveErrorFromLineError.from.Goals as goal

pub returns-in-Beyond : goal.returns-in-Beyond
unfolding of_line
returns-in-Beyond c = rw c.in-Beyond.is

pub returns-in-NoLine : goal.returns-in-NoLine
unfolding of_line
returns-in-NoLine c = rw c.in-NoLine.is
