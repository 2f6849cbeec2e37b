-- The row by where the columns of its line end.
use mathlib.Core.Path.{◌∙◌}
use Rattle.decoding.specs.Records.{pcf_row}
use Rattle.decoding.proofs.PlaceLaws.{pcf_divided}
use Rattle.found_rows.proofs.DivideLaws.{found}
use Rattle.found_rows.proofs.pcf_at.Goals as goal

pub returns : goal.returns
returns c = found c.divide_row-line.ensures pcf_row (c.pcf_row.ensures ∙ pcf_divided _ c.divide_row-line.ensures.are_ends)
