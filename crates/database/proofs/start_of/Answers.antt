-- By the column.
use Rattle.database.specs.Arrays.{row_at}
use Rattle.database.proofs.start_of.Goals as goal

pub returns : goal.returns
unfolding row_at
returns c = c.column_at.ensures
