-- A good cell, or its reason and column.
use mathlib.Core.Path.{◌∙◌}
use Rattle.spoken.proofs.SpokenLaws.{cell_good, cell_bad}
use Rattle.spoken.proofs.cells.match_cell.Goals as goal

pub returns-then-cell-eq0 : goal.returns-then-cell-eq0
returns-then-cell-eq0 c = c.match_text.ensures ∙ cell_good c.args.line.now c.args.at c.args.cell c.if-cell-eq0.true

pub returns : goal.returns
returns c = rw (c.match_decimal.ensures, c.match_byte-after_colon.ensures, c.match_decimal-after_reason.ensures, c.match_byte-after_space.ensures) (cell_bad c.args.line.now c.args.at c.args.cell c.if-cell-eq0.false)
