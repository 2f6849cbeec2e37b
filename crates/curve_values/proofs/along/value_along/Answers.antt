-- By the ends of the curve, where there is one.
use mathlib.Core.Path.{ap, sym, ◌∙◌}
use mir.Facts.{to_z-of_z}
use mir.Val.{SFits}
use mir.Syntax.{w64}
use borrow.Author.Rules.{rules}
use Rattle.calibration.specs.Curve as calibration
use Rattle.outcomes.specs.Outcome.{answer}
use Rattle.outcomes.specs.Refusals.{said, refusal_number, refusal_place, refused_by}
use Rattle.curve_values.specs.Along.{outcome_of}
use Rattle.curve_values.proofs.AlongLaws.{along_points, along_none}
use Rattle.curve_values.proofs.along.value_along.Goals as goal

pub returns-in_default : goal.returns-in_default
unfolding said refused_by refusal_number refusal_place
returns-in_default c = along_none _ _ _ _ c.in_default.is

pub returns-in-Ok : goal.returns-in-Ok
unfolding said outcome_of calibration.said_curve
returns-in-Ok c = let f : SFits w64 c.in-Ok.y = search rules in
    ap answer (to_z-of_z f)
    ∙ ap (λ x. outcome_of (calibration.said_curve x)) (sym c.in-Ok.is)
    ∙ ap outcome_of c.curve_at.ensures
    ∙ along_points _ _ _ _ c.in-Some.is c.front.ensures c.front-2.ensures (to_z-of_z c.ranges.raw)

pub returns-in-Err : goal.returns-in-Err
unfolding said
returns-in-Err c = c.refusal_of.ensures
    ∙ ap (λ x. outcome_of (calibration.said_curve x)) (sym c.in-Err.is)
    ∙ ap outcome_of c.curve_at.ensures
    ∙ along_points _ _ _ _ c.in-Some.is c.front.ensures c.front-2.ensures (to_z-of_z c.ranges.raw)
