-- The row by where the columns of its line end.
use mathlib.Core.Path.{◌∙◌}
use Rattle.decoding.specs.Records.{cap_row}
use Rattle.decoding.proofs.PlaceLaws.{cap_divided}
use Rattle.found_rows.proofs.DivideLaws.{found}
use Rattle.found_rows.proofs.cap_at.Goals as goal

pub returns : goal.returns
returns c = found c.divide_row-line.ensures cap_row (c.cap_row.ensures ∙ cap_divided _ c.divide_row-line.ensures.are_ends)
