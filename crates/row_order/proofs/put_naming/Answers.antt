use native.Mathlib.Omega.{arith}
use Rattle.row_order.proofs.TellLaws.{telling_none, telling_more, telling_all}
use Rattle.row_order.proofs.put_naming.Goals as goal

pub loop-i-init : goal.loop-i-init
loop-i-init c = telling_none _ _ _ _ _ _ c.requires.1 c.requires.0

pub tell-at-requires : goal.tell-at-requires
tell-at-requires c = (c.loop-i-test.true, omega (arith, c.loop-i.invariant.size, c.requires.0), omega (arith, c.loop-i.invariant.most, c.loop-i-test.true, c.requires.0, c.requires.2))

pub loop-i-preserved : goal.loop-i-preserved
loop-i-preserved c = telling_more _ _ _ _ _ _ _ _ _ c.loop-i.invariant c.loop-i-test.true c.requires.0 _ _ _ c.tell-at.ensures

pub returns : goal.returns
returns c = telling_all _ _ _ _ _ _ _ _ _ c.loop-i.invariant c.loop-i-test.false
