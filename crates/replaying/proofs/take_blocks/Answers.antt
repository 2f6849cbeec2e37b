use Rattle.replaying.proofs.ReplayLaws.{replayed_none, replayed_more, replayed_end}
use Rattle.replaying.proofs.take_blocks.Goals as goal

pub loop-init : goal.loop-init
loop-init g c = replayed_none _ _ c.at_start-standing.ensures

pub loop-preserved : goal.loop-preserved
loop-preserved g c = replayed_more _ _ c.loop.invariant c.take_block-standing.ensures

pub returns-after-loop : goal.returns-after-loop
returns-after-loop g c = replayed_end _ _ c.loop.invariant

pub returns-then-standing-lt-BLOCK : goal.returns-then-standing-lt-BLOCK
returns-then-standing-lt-BLOCK g c = replayed_end _ _ (replayed_more _ _ c.loop.invariant c.take_block-standing.ensures)
