-- The part of a column.
use Rattle.judged.proofs.ColumnLaws.{column_part}
use Rattle.judged.proofs.parts.half_column.Goals as goal

pub returns : goal.returns
returns c = column_part c.args.halves.now c.args.c _ _ c.least-from.ensures c.least-to.ensures
