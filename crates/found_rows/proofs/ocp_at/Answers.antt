-- The row by where the columns of its line end.
use mathlib.Core.Path.{◌∙◌}
use Rattle.decoding.specs.Records.{ocp_row}
use Rattle.decoding.proofs.PlaceLaws.{ocp_divided}
use Rattle.found_rows.proofs.DivideLaws.{found}
use Rattle.found_rows.proofs.ocp_at.Goals as goal

pub returns : goal.returns
returns c = found c.divide_row-line.ensures ocp_row (c.ocp_row.ensures ∙ ocp_divided _ c.divide_row-line.ensures.are_ends)
