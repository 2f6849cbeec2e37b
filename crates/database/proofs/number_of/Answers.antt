-- By the column.
use Rattle.database.specs.Arrays.{row_at}
use Rattle.database.proofs.number_of.Goals as goal

pub returns : goal.returns
unfolding row_at
returns c = c.column_at.ensures.0
