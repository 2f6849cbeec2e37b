-- What the column's text says.
use mathlib.Core.Path.{ap, ◌∙◌}
use Rattle.name_bytes.specs.Names.{name_of}
use Rattle.rows.proofs.at.name_at.Goals as goal

pub returns : goal.returns
returns c = c.name_of.ensures ∙ ap name_of c.column.ensures
