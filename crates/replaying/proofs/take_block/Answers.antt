-- The packets of what stands in the block then.
use Rattle.replaying.proofs.ReplayLaws.{turned}
use Rattle.replaying.proofs.take_block.Goals as goal

pub returns : goal.returns
returns g c = turned _ _ c.refill-to.ensures.refilled c.part-bytes.ensures c.play-played.ensures
