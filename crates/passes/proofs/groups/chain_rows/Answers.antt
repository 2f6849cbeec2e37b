use mathlib.Core.Path.{◌≡◌}
use native.Mathlib.Omega.{arith}
use Rattle.passes.proofs.GroupLaws.{chained_none, chained_more}
use Rattle.passes.proofs.groups.chain_rows.Goals as goal

pub loop-i-init : goal.loop-i-init
loop-i-init c = let e = c.numbered-i.ensures in rw e (chained_none _ _ _ _ _)

pub loop-i-preserved : goal.loop-i-preserved
loop-i-preserved c = chained_more _ _ _ _ _ _ _ _ c.loop-i.invariant c.loop-i-test.true _ _ _ c.byte_at.ensures c.half_at-id.ensures c.half_at.ensures _ _
    c.put_marked.ensures c.put_half.ensures

pub returns : goal.returns
returns c = let e : c.loop-i.i ≡ 0 = omega arith in rw (← e) c.loop-i.invariant
