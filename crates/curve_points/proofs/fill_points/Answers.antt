use mathlib.Core.Path.{◌≡◌, ◌∙◌}
use mir.Facts.{to_z-of_z}
use mir.Val.{SFits, to_z, of_z}
use mir.Syntax.{w64}
use borrow.Author.Rules.{rules}
use native.Mathlib.Omega.{arith}
use Rattle.laws.proofs.Fill.{fill_start, fill_more, fill_done}
use Rattle.curve_points.proofs.CurveLaws.{xvals_are, yvals_are}
use Rattle.curve_points.proofs.fill_points.Goals as goal

pub loop-i-init : goal.loop-i-init
loop-i-init c = (omega arith, fill_start _ _ _, fill_start _ _ _)

pub loop-i-preserved : goal.loop-i-preserved
loop-i-preserved c =
    let x-word : (to_z w64 (of_z w64 c.cap_at-row.result.xvals) ≡ c.cap_at-row.result.xvals) = let f : SFits w64 c.cap_at-row.result.xvals = search rules in
    to_z-of_z f in
    let y-word : (to_z w64 (of_z w64 c.cap_at-row.result.yvals) ≡ c.cap_at-row.result.yvals) = let f : SFits w64 c.cap_at-row.result.yvals = search rules in
    to_z-of_z f in (
      omega arith,
      fill_more _ _ c.loop-i.invariant.1 c.loop-i-test.true (x-word ∙ xvals_are _ c.cap_at-row.ensures),
      fill_more _ _ c.loop-i.invariant.2 c.loop-i-test.true (y-word ∙ yvals_are _ c.cap_at-row.ensures),
    )

pub returns : goal.returns
returns c = record { xs_after = fill_done _ _ c.loop-i.invariant.1 (omega arith); ys_after = fill_done _ _ c.loop-i.invariant.2 (omega arith) }
