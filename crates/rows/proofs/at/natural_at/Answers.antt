-- What the column's text says.
use mathlib.Core.Path.{ap, ◌∙◌}
use Rattle.rows.specs.Values.{natural_or}
use Rattle.rows.proofs.at.natural_at.Goals as goal

pub returns : goal.returns
returns c = c.natural_or.ensures ∙ ap (natural_or _) c.column.ensures
