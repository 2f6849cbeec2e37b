use mathlib.Core.Path.{sym, ◌∙◌}
use native.Mathlib.Omega.{arith}
use Rattle.explaining.proofs.CauseLaws.{putting_none, putting_here, putting_more, putting_ends, putting_left}
use Rattle.explaining.proofs.put_causes.Goals as goal

pub loop-j-init : goal.loop-j-init
loop-j-init c = putting_none _ _ _

pub overflow_add-count : goal.overflow_add-count
overflow_add-count c = omega (arith, c.loop-j.invariant.most, c.loop-j-test.true)

pub loop-j-preserved-then-points_to : goal.loop-j-preserved-then-points_to
loop-j-preserved-then-points_to c = putting_here _ _ _ _ _ _ c.loop-j.invariant c.loop-j-test.true (sym c.points_to.ensures ∙ c.if-points_to.true)
    _ c.keep_at.ensures

pub loop-j-preserved : goal.loop-j-preserved
loop-j-preserved c = putting_more _ _ _ _ _ _ c.loop-j.invariant c.loop-j-test.true (sym c.points_to.ensures ∙ c.if-points_to.false)

pub returns : goal.returns
returns c = record { value = putting_ends _ _ _ _ _ _ c.loop-j.invariant c.loop-j-test.false; places_after = putting_left _ _ _ _ _ _ c.loop-j.invariant c.loop-j-test.false }
