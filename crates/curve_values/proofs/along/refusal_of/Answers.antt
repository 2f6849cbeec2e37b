-- Error by error.
use mathlib.Core.Path.{ap, sym}
use Rattle.std.specs.Prelude.{Err}
use Rattle.calibration.specs.Curve as calibration
use Rattle.calibration.specs.declared.curve.CurveError.{CurveError}
use Rattle.outcomes.specs.Refusals.{refusal_number, refusal_place, refused_by}
use Rattle.curve_values.specs.Along.{outcome_of}
use Rattle.curve_values.proofs.along.refusal_of.Goals as goal

pub returns-in-OffCurve : goal.returns-in-OffCurve
unfolding outcome_of calibration.said_curve refused_by refusal_number refusal_place
returns-in-OffCurve c = sym (ap (λ (x : CurveError). outcome_of (calibration.said_curve (Err x))) c.in-OffCurve.is)

pub returns-in-Beyond : goal.returns-in-Beyond
unfolding outcome_of calibration.said_curve refused_by refusal_number refusal_place
returns-in-Beyond c = sym (ap (λ (x : CurveError). outcome_of (calibration.said_curve (Err x))) c.in-Beyond.is)

pub returns-in-NoLine : goal.returns-in-NoLine
unfolding outcome_of calibration.said_curve refused_by refusal_number refusal_place
returns-in-NoLine c = sym (ap (λ (x : CurveError). outcome_of (calibration.said_curve (Err x))) c.in-NoLine.is)
