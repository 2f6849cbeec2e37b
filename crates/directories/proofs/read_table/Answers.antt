-- The table's part alone is lent.
use Rattle.std.proofs.Common.{arith}
use Rattle.directories.proofs.SpaceLaws.{into_none, into_part}
use Rattle.directories.proofs.read_table.Goals as goal

pub returns-then-t-ge-TABLES : goal.returns-then-t-ge-TABLES
returns-then-t-ge-TABLES g c = into_none _ _

pub returns-then-space-to : goal.returns-then-space-to
returns-then-space-to g c = into_none _ _

pub returns : goal.returns
returns g c = into_part _ _ _ _ (omega arith) (omega arith) c.read_file.ensures (omega arith)
