-- The offset and the width are those of their columns.
use mathlib.Core.Path.{ap₂, ◌∙◌}
use Rattle.laws.proofs.Words.{kept}
use Rattle.rows.specs.Values.{identification_field}
use Rattle.rows.proofs.at.identification_at.Goals as goal

pub returns : goal.returns
returns c = c.identification.ensures ∙ ap₂ identification_field (kept c.integer_at.type_inv c.integer_at.ensures) c.natural_at.ensures
