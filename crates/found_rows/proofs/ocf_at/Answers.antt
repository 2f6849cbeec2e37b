-- The row by where the columns of its line end.
use mathlib.Core.Path.{◌∙◌}
use Rattle.decoding.specs.Records.{ocf_row}
use Rattle.decoding.proofs.PlaceLaws.{ocf_divided}
use Rattle.found_rows.proofs.DivideLaws.{found}
use Rattle.found_rows.proofs.ocf_at.Goals as goal

pub returns : goal.returns
returns c = found c.divide_row-line.ensures ocf_row (c.ocf_row.ensures ∙ ocf_divided _ c.divide_row-line.ensures.are_ends)
