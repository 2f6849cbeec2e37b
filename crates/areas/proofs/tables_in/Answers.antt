-- The tables' parts come first.
use Rattle.areas.specs.Memory.{area_tables}
use Rattle.areas.proofs.tables_in.Goals as goal

pub returns : goal.returns
unfolding area_tables
returns c = c.tables_in.ensures
