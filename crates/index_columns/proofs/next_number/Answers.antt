-- By whether the tables are the same.
use Rattle.index_columns.proofs.NumberLaws.{same_table, other_table}
use Rattle.index_columns.proofs.next_number.Goals as goal

pub returns-then-table-next : goal.returns-then-table-next
returns-then-table-next c = same_table c.args.number c.args.table c.args.next c.if-table-next.true

pub returns-else-table-next : goal.returns-else-table-next
returns-else-table-next c = other_table c.args.number c.args.table c.args.next c.if-table-next.false
