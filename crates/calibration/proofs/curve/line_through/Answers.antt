-- `calibration::curve::line_through` meets its contract.
use mathlib.Core.Path.{sym, ap, ◌∙◌}
use mir.Facts.{to_z-of_z}
use mir.Syntax.{w64}
use mir.Val.{SFits}
use Rattle.laws.specs.Said.{value}
use Rattle.laws.proofs.Words.{through_word}
use Rattle.curves.specs.Line.{said_on_line}
use Rattle.calibration.specs.Curve.{said_curve}
use Rattle.calibration.proofs.CurveLaws.{error_told, through_two, through_one, through_none}
use borrow.Author.Rules.{rules}
use Rattle.calibration.proofs.curve.line_through.Goals as goal

pub returns-in_default : goal.returns-in_default
unfolding said_curve
returns-in_default c = through_none _ _ _ _ c.in_default.is

pub returns-in_default-to : goal.returns-in_default-to
unfolding said_curve
returns-in_default-to c = through_one _ _ _ c.in-Some.is c.in_default-to.is

pub returns-in_err-y : goal.returns-in_err-y
returns-in_err-y c = error_told _ _ c.from_residual.ensures
    ∙ ap said_on_line (sym c.in_err-y.was)
    ∙ c.on_line.ensures
    ∙ through_two c.args.xs.now c.args.ys.now c.args.x c.in-Some.is c.in-Some-to.is c.point.ensures c.point-2.ensures
    (through_word c.args.x c.ranges.x.sfits)

pub returns : goal.returns
unfolding said_curve said_on_line
returns c = let f : SFits w64 c.in_ok-y.y = search rules in
    ap value (to_z-of_z f)
    ∙ ap said_on_line (sym c.in_ok-y.was)
    ∙ c.on_line.ensures
    ∙ through_two c.args.xs.now c.args.ys.now c.args.x c.in-Some.is c.in-Some-to.is c.point.ensures c.point-2.ensures
    (through_word c.args.x c.ranges.x.sfits)
