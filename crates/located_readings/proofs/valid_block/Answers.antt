-- The rows that were read are asked.
use Rattle.located_readings.proofs.FollowLaws.{block_agrees, block_ends}
use Rattle.located_readings.proofs.valid_block.Goals as goal

pub returns-then-valid : goal.returns-then-valid
returns-then-valid c = block_agrees _ _ _ _ _ _ _ c.follow-end.ensures _ c.valid_chain-valid.ensures c.if-valid.true

pub returns : goal.returns
returns c = block_ends _ _ _ _ _ _ _ c.follow-end.ensures _ c.valid_chain-valid.ensures c.if-valid.false
