use mathlib.Core.Path.{sym, ◌∙◌}
use native.Mathlib.Omega.{arith}
use Rattle.pointing.proofs.StepLaws.{count_start, count_here, count_more, count_end}
use Rattle.pointing.proofs.count_causes.Goals as goal

pub loop-j-init : goal.loop-j-init
loop-j-init c = (omega arith, count_start _ _)

pub loop-j-preserved-then-points_to : goal.loop-j-preserved-then-points_to
loop-j-preserved-then-points_to c = (omega arith, count_here _ _ _ _ _ c.loop-j.invariant.1 c.loop-j-test.true (sym c.points_to.ensures ∙ c.if-points_to.true))

pub loop-j-preserved : goal.loop-j-preserved
loop-j-preserved c = (omega arith, count_more _ _ _ _ _ c.loop-j.invariant.1 c.loop-j-test.true (sym c.points_to.ensures ∙ c.if-points_to.false))

pub returns : goal.returns
returns c = count_end _ _ _ _ _ c.loop-j.invariant.1 c.loop-j-test.false
