-- The number of that column.
use Rattle.scripts.proofs.operands.natural_at.Goals as goal

pub returns : goal.returns
returns c = cc
