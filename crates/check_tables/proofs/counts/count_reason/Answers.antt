use native.Mathlib.Omega.{arith}
use Rattle.check_tables.proofs.CountLaws.{counted_none, counted_one, counted_not, counted_all}
use Rattle.check_tables.proofs.counts.count_reason.Goals as goal

pub loop-i-init : goal.loop-i-init
loop-i-init c = (omega arith, omega arith, counted_none _ _)

pub loop-i-preserved-then-half_at-reason : goal.loop-i-preserved-then-half_at-reason
loop-i-preserved-then-half_at-reason c = (omega arith, omega arith, counted_one _ _ _ _ c.loop-i.invariant.2 _ c.half_at.ensures c.if-half_at-reason.true)

pub loop-i-preserved : goal.loop-i-preserved
loop-i-preserved c = (omega arith, omega arith, counted_not _ _ _ _ c.loop-i.invariant.2 _ c.half_at.ensures c.if-half_at-reason.false)

pub returns : goal.returns
returns c = counted_all _ _ _ _ _ c.loop-i.invariant.2 (omega arith)
