-- Those of its entry.
use Rattle.index_entries.proofs.EntryLaws.{is_entry, no_entry_lem}
use Rattle.index_entries.proofs.numbers_at.Goals as goal

pub returns-in-Ok : goal.returns-in-Ok
returns-in-Ok c = (is_entry _ _ c.entry_at.ensures c.in-Ok.is).1

pub returns-in-Err : goal.returns-in-Err
returns-in-Err c = (no_entry_lem _ _ c.entry_at.ensures c.in-Err.is).1
