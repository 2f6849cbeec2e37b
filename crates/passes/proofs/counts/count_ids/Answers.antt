use mathlib.Core.Path.{◌≡◌}
use native.Mathlib.Omega.{arith}
use Rattle.passes.proofs.CountLaws.{counted_none, counted_more}
use Rattle.passes.proofs.counts.count_ids.Goals as goal

pub loop-i-init : goal.loop-i-init
loop-i-init c = (omega arith, counted_none _ _ _ (λ id h. omega (arith, c.slice_known-1.given id)))

pub loop-i-preserved : goal.loop-i-preserved
loop-i-preserved c = (
  omega arith,
  counted_more _ _ _ _ _ c.loop-i.invariant.1 _ _ _ _ c.byte_at.ensures c.half_at-id.ensures
      c.half_at.ensures c.one_more-count.ensures _ c.put_marked.ensures,
)

pub returns : goal.returns
returns c = let e : c.loop-i.i ≡ c.args.n = omega arith in rw (← e) c.loop-i.invariant.1
