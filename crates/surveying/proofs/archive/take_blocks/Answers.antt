use Rattle.surveying.proofs.ArchiveLaws.{surveyed_none, surveyed_more, surveyed_end}
use Rattle.surveying.proofs.archive.take_blocks.Goals as goal

pub loop-init : goal.loop-init
loop-init g c = surveyed_none _ _ _ c.at_start-standing.ensures

pub loop-preserved : goal.loop-preserved
loop-preserved g c = surveyed_more _ _ _ c.loop.invariant c.take_block-standing.ensures

pub returns-after-loop : goal.returns-after-loop
returns-after-loop g c = surveyed_end _ _ _ c.loop.invariant

pub returns-then-standing-lt-BLOCK : goal.returns-then-standing-lt-BLOCK
returns-then-standing-lt-BLOCK g c = surveyed_end _ _ _ (surveyed_more _ _ _ c.loop.invariant c.take_block-standing.ensures)
