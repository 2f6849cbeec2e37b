-- By CURTX.
use borrow.Author.Tests.{not-true, not-false}
use Rattle.curve_points.specs.Curves.{xvals_of, yvals_of}
use Rattle.curve_values.proofs.ScaleLaws.{scale_free, scale_curve, points_free, points_curve}
use Rattle.curve_values.proofs.scale.gather_scale.Goals as goal

pub returns-then-not-curtx : goal.returns-then-not-curtx
returns-then-not-curtx c = let free = not-true _ c.if-not-curtx.true in record { value = scale_free _ _ free; xs_after = points_free _ _ xvals_of _ free; ys_after = points_free _ _ yvals_of _ free }

pub returns : goal.returns
returns c = let given = not-false _ c.if-not-curtx.false in record { value = scale_curve _ _ given c.gather_points.ensures.value; xs_after = points_curve _ _ xvals_of _ given c.gather_points.ensures.xs_after; ys_after = points_curve _ _ yvals_of _ given c.gather_points.ensures.ys_after }
