-- What the column's text says.
use mathlib.Core.Path.{ap, ◌∙◌}
use Rattle.rows.specs.Values.{coefficient_or_zero}
use Rattle.rows.proofs.at.coefficient_at.Goals as goal

pub returns : goal.returns
returns c = c.coefficient_or_zero.ensures ∙ ap coefficient_or_zero c.column.ensures
