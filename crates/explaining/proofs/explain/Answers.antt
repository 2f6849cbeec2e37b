-- By the row's cell.
use Rattle.explaining.proofs.explain.Goals as goal

pub returns : goal.returns
returns c = record { result_value = (c.explain_in.ensures _ _ c.cell_of-cell.ensures).0; places_after = (c.explain_in.ensures _ _ c.cell_of-cell.ensures).1 }
