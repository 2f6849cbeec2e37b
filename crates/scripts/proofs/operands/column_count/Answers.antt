-- The walk counts them.
use mathlib.Core.Path.{ap}
use Rattle.lines.specs.declared.columns.Scanned.{Scanned}
use Rattle.lines.specs.Columns.{scanned}
use Rattle.scripts.proofs.operands.column_count.Goals as goal

pub returns : goal.returns
unfolding scanned
returns c = ap (λ (w : Scanned). w.count) c.scan-walk.ensures.value
