-- By the column.
use mathlib.Core.Path.{ap, ◌∙◌}
use Rattle.rows.specs.Values.{natural_or}
use Rattle.found_rows.proofs.number_in.Goals as goal

pub returns : goal.returns
returns c = c.natural_or.ensures ∙ ap (natural_or _) c.column.ensures
