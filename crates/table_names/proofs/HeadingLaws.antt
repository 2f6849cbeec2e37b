-- No table has more columns than a line is divided into.
use Prim.Native.Nat.{◌≤◌}
use lib.ListN.{length}
use Rattle.lines.specs.Columns.{columns_of}
use Rattle.schemas.specs.declared.Table.{Table}
use Rattle.schemas.proofs.ShapeLaws.{schema_few}
use Rattle.table_names.specs.Headings.{headings, each_named}

pub few : (t : Table) → length (columns_of (headings t)) ≤ 24
few t = rw (each_named t) (schema_few t)
