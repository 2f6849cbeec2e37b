-- `calibration::curve::before_first` meets its contract.
use Rattle.calibration.proofs.CurveLaws.{before_first_lem}
use mathlib.Core.Path.{ap, ◌∙◌}
use Rattle.laws.proofs.Words.{through_word, kept}
use Rattle.calibration.specs.Nearest.{above}
use Rattle.calibration.proofs.curve.before_first.Goals as goal

pub returns : goal.returns
returns c = before_first_lem c.args.xs.now c.args.ys.now c.args.x c.args.ends c.args.j c.off_end.ensures
    (c.above-next.ensures ∙ ap (above c.args.xs.now) (kept c.item.type_inv c.item.ensures))
    (through_word c.args.x c.ranges.x.sfits)
