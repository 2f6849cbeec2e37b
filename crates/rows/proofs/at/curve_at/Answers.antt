-- What the column's text says.
use mathlib.Core.Path.{ap, ◌∙◌}
use Rattle.name_bytes.specs.Names.{curve_name_of}
use Rattle.rows.proofs.at.curve_at.Goals as goal

pub returns : goal.returns
returns c = c.curve_name_of.ensures ∙ ap curve_name_of c.column.ensures
