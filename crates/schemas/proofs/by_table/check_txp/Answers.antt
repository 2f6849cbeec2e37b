-- The table's constants, taken together, are its schema of the definitions.
use Rattle.schemas.specs.Tables.{schema, txp}
use Rattle.schemas.specs.Constants.{schema_from}
use Rattle.column_checks.specs.ColumnKinds.{kind_at, letters_at, lowests, highests}
use Rattle.schemas.proofs.by_table.check_txp.Goals as goal

pub returns : goal.returns
unfolding schema txp schema_from kind_at letters_at lowests highests
returns c = c.check_row.ensures
