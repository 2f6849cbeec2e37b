-- By the column of the groups.
use Rattle.indexing.proofs.group_rows.Goals as goal

pub returns : goal.returns
returns c = rw (← c.half_column.ensures) c.chain_rows.ensures
