-- The number of that column.
use Rattle.scripts.proofs.operands.integer_at.Goals as goal

pub returns : goal.returns
returns c = cc
