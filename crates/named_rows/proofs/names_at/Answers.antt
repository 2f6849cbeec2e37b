-- Both namings, at this column.
use Rattle.named_rows.proofs.NameLaws.{at_column}
use Rattle.named_rows.proofs.names_at.Goals as goal

pub returns : goal.returns
returns c = at_column _ _ _ _ _ _ _ c.stands_at-one.ensures c.stands_at-two.ensures _ c.names.ensures
