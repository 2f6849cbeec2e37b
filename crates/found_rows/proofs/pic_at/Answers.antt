-- The row by where the columns of its line end.
use mathlib.Core.Path.{◌∙◌}
use Rattle.decoding.specs.Records.{pic_row}
use Rattle.decoding.proofs.PlaceLaws.{pic_divided}
use Rattle.found_rows.proofs.DivideLaws.{found}
use Rattle.found_rows.proofs.pic_at.Goals as goal

pub returns : goal.returns
returns c = found c.divide_row-line.ensures pic_row (c.pic_row.ensures ∙ pic_divided _ c.divide_row-line.ensures.are_ends)
