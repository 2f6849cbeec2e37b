-- What the column's text says, through a word that holds it.
use mir.Facts.{to_z-of_z}
use mathlib.Core.Path.{◌∙◌}
use Rattle.laws.proofs.Words.{kept}
use Rattle.rows.proofs.at.integer_at.Goals as goal

pub returns : goal.returns
returns c = kept c.integer_or.type_inv (c.integer_or.ensures ∙ rw (to_z-of_z c.ranges.default, c.column.ensures))
