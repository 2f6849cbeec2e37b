use native.Mathlib.Omega.{arith}
use Rattle.tables.proofs.SizeLaws.{feeds_next, feeds_none}
use Rattle.tables.proofs.feeds_in.Goals as goal

pub loop-i-init : goal.loop-i-init
loop-i-init c = (omega arith, omega arith, omega arith)

pub overflow_add-n : goal.overflow_add-n
overflow_add-n c = omega (arith, c.feed-n.ensures.1, c.requires)

pub loop-i-preserved : goal.loop-i-preserved
loop-i-preserved c = (
  omega arith,
  omega (arith, c.feed-n.ensures.1),
  omega (
    arith,
    feeds_next c.args.block.now c.loop-i.i c.loop-i-test.true
        c.feed-n.ensures.0,
  ),
)

pub returns : goal.returns
returns c = omega (arith, feeds_none c.args.block.now c.loop-i.i c.loop-i-test.false)
