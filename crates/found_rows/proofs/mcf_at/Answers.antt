-- The row by where the columns of its line end.
use mathlib.Core.Path.{◌∙◌}
use Rattle.decoding.specs.Records.{mcf_row}
use Rattle.decoding.proofs.PlaceLaws.{mcf_divided}
use Rattle.found_rows.proofs.DivideLaws.{found}
use Rattle.found_rows.proofs.mcf_at.Goals as goal

pub returns : goal.returns
returns c = found c.divide_row-line.ensures mcf_row (c.mcf_row.ensures ∙ mcf_divided _ c.divide_row-line.ensures.are_ends)
