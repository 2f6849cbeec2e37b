-- The table and the start of the row, and the walk from there.
use Rattle.found_rows.proofs.DivideLaws.{row_divided}
use Rattle.found_rows.proofs.divide_row.Goals as goal

pub returns : goal.returns
returns c = row_divided c.table_of-table.ensures c.start_of-start.ensures.0 c.scan-walk.ensures.value c.part.ensures c.requires c.scan-walk.ensures.ends_after
