-- Where it stands among the table's cells.
use Rattle.row_places.proofs.PlaceLaws.{number_before, number_past, number_in}
use Rattle.row_places.proofs.row_number.Goals as goal

pub returns-then-i-start : goal.returns-then-i-start
returns-then-i-start c = number_before _ _ c.if-i-start.true

pub returns-then-cells-i : goal.returns-then-cells-i
returns-then-cells-i c = number_past _ _ c.if-i-start.false c.if-cells-i.true

pub returns : goal.returns
returns c = number_in _ _ c.if-i-start.false c.if-cells-i.false
