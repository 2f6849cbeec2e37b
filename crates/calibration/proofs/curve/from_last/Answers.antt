-- `calibration::curve::from_last` meets its contract: past the last point, and at it.
use mathlib.Core.Path.{◌≡◌, sym, ap, ap₂, ◌∙◌}
use lib.IntN.{pos}
use lib.ListN.{get_or}
use lib.Signed.{lt_z}
use Rattle.laws.specs.Said.{value}
use Rattle.laws.proofs.Words.{through_word, kept}
use Rattle.calibration.specs.Nearest.{below}
use Rattle.calibration.specs.Curve.{said_curve}
use Rattle.calibration.proofs.CurveLaws.{past_last, at_last}
use Rattle.calibration.proofs.curve.from_last.Goals as goal

pub returns-then-less : goal.returns-then-less
returns-then-less c =
    let past_is : (lt_z (get_or c.args.xs.now c.args.i (pos 0)) c.args.x ≡ c.less.result) = sym (c.less.ensures ∙ ap₂ lt_z (kept c.item-last.type_inv c.item-last.ensures) (through_word c.args.x c.ranges.x.sfits)) in
    past_last c.args.xs.now c.args.ys.now c.args.x c.args.ends c.args.i c.off_end.ensures
    (c.below.ensures ∙ ap (below c.args.xs.now) (kept c.item-last.type_inv c.item-last.ensures))
    (through_word c.args.x c.ranges.x.sfits)
    (past_is ∙ c.if-less.true)

pub returns : goal.returns
unfolding said_curve
returns c =
    let past_is : (lt_z (get_or c.args.xs.now c.args.i (pos 0)) c.args.x ≡ c.less.result) = sym (c.less.ensures ∙ ap₂ lt_z (kept c.item-last.type_inv c.item-last.ensures) (through_word c.args.x c.ranges.x.sfits)) in
    ap value (kept c.item.type_inv c.item.ensures) ∙ at_last c.args.xs.now c.args.ys.now c.args.x c.args.ends c.args.i (past_is ∙ c.if-less.false)
