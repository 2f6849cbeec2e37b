-- Through the table's cells.
use mathlib.Core.Path.{◌∙◌}
use Rattle.cells.proofs.CellLaws.{cell_is}
use Rattle.cells.proofs.cell_of.Goals as goal

pub returns : goal.returns
returns c = c.cell_in.ensures ∙ rw c.table_cells.ensures (cell_is _ _ _)
