-- The row by where the columns of its line end.
use mathlib.Core.Path.{ap, ◌∙◌}
use native.Mathlib.Omega.{arith}
use lib.ListN.{length}
use Rattle.decoding.specs.Records.{txp_row}
use Rattle.decoding.proofs.PlaceLaws.{txp_divided}
use Rattle.found_rows.proofs.DivideLaws.{found}
use Rattle.found_rows.proofs.txp_at.Goals as goal

pub returns : goal.returns
returns c = record { value = found c.divide_row-line.ensures txp_row (c.txp_row.ensures ∙ txp_divided _ c.divide_row-line.ensures.are_ends); i_len_bound = omega (arith, ap length c.divide_row-line.ensures.is_line, c.divide_row-line.type_inv) }
