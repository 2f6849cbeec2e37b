-- By the naming's column.
use Rattle.manners.specs.Manners.{weight}
use Rattle.manners.proofs.MarkLaws.{second_column_lem, second_other}
use Rattle.manners.proofs.is_second.Goals as goal

pub returns-then-naming_column-eq-SECOND_COLUMN : goal.returns-then-naming_column-eq-SECOND_COLUMN
unfolding weight
returns-then-naming_column-eq-SECOND_COLUMN c = second_column_lem _ _ _ c.naming_column.ensures c.if-naming_column-eq-SECOND_COLUMN.true _ c.meets.ensures

pub returns : goal.returns
returns c = second_other _ _ _ c.naming_column.ensures c.if-naming_column-eq-SECOND_COLUMN.false
