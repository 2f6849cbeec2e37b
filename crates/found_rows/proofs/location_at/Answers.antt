-- Four columns by where the columns of the line end.
use Rattle.found_rows.proofs.DivideLaws.{location_found}
use Rattle.found_rows.proofs.location_at.Goals as goal

pub returns : goal.returns
returns c = location_found c.divide_row-line.ensures c.number_in.ensures c.number_in-2.ensures c.number_in-3.ensures c.number_in-4.ensures
