-- The columns passed have no reason, and what is left gives the verdict of all (`Checking`).
use Rattle.lines.specs.Columns.{column_in}
use Rattle.schemas.specs.Constants.{schema_from}
use Rattle.schemas.proofs.ShapeLaws.{Checking}
use Rattle.schemas.proofs.columns_verdict.Given as goal

abbrev pub invariant-loop-k : goal.invariant-loop-k
invariant-loop-k l = Checking (schema_from l.widths l.marks l.kinds) (column_in l.line l.ends) l.k
