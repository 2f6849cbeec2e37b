-- One key is given.
use Rattle.row_keys.proofs.parts.holder.Goals as goal

pub returns : goal.returns
returns c = rw c.holding.ensures
