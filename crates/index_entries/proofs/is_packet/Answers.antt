-- By its entry.
use mathlib.Core.Path.{sym}
use Rattle.index_entries.proofs.EntryLaws.{is_entry, no_entry_lem}
use Rattle.index_entries.proofs.is_packet.Goals as goal

pub returns-in-Ok : goal.returns-in-Ok
returns-in-Ok c = sym (is_entry _ _ c.entry_at.ensures c.in-Ok.is).0

pub returns-in-Err : goal.returns-in-Err
returns-in-Err c = sym (no_entry_lem _ _ c.entry_at.ensures c.in-Err.is).0
