-- The packets of what stands in the block then.
use Rattle.surveying.proofs.ArchiveLaws.{turned}
use Rattle.surveying.proofs.archive.take_block.Goals as goal

pub returns : goal.returns
returns g c = turned _ _ _ c.refill-to.ensures.refilled c.part-bytes.ensures c.survey-surveyed.ensures
