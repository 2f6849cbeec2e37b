-- The row by where the columns of its line end.
use mathlib.Core.Path.{◌∙◌}
use Rattle.decoding.specs.Records.{caf_row}
use Rattle.decoding.proofs.PlaceLaws.{caf_divided}
use Rattle.found_rows.proofs.DivideLaws.{found}
use Rattle.found_rows.proofs.caf_at.Goals as goal

pub returns : goal.returns
returns c = found c.divide_row-line.ensures caf_row (c.caf_row.ensures ∙ caf_divided _ c.divide_row-line.ensures.are_ends)
