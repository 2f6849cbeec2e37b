-- A row with numbers, one of the packets or not, or none.
use Rattle.index_entries.proofs.EntryLaws.{row_taken, row_left, no_row}
use Rattle.index_entries.proofs.entry_at.Goals as goal

pub returns-then-is_row : goal.returns-then-is_row
returns-then-is_row c = row_taken _ _ c.packet_at.ensures c.in-Some.is c.is_row.ensures c.if-is_row.true

pub returns-else-is_row : goal.returns-else-is_row
returns-else-is_row c = row_left _ _ c.packet_at.ensures c.in-Some.is c.is_row.ensures c.if-is_row.false

pub returns-in-None : goal.returns-in-None
returns-in-None c = no_row _ _ c.packet_at.ensures c.in-None.is
