use native.Mathlib.Omega.{arith}
use Rattle.arrays.proofs.ClearLaws.{cleared_none, cleared_more, cleared_all}
use Rattle.arrays.proofs.clear_halves.Goals as goal

pub loop-i-init : goal.loop-i-init
loop-i-init c = cleared_none _

pub loop-i-smaller : goal.loop-i-smaller
loop-i-smaller c = omega (arith, c.loop-i.invariant.long)

pub loop-i-preserved : goal.loop-i-preserved
loop-i-preserved c = cleared_more _ c.loop-i.invariant (omega (arith, c.loop-i.invariant.long))

pub returns : goal.returns
returns c = cleared_all _ c.loop-i.invariant (omega (arith, c.loop-i.invariant.long))
