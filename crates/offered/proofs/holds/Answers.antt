-- Of the number that stands there.
use mathlib.Core.Path.{ap, ◌∙◌}
use Rattle.laws.proofs.Words.{through_word}
use Rattle.offered.specs.Offered.{is_within}
use Rattle.offered.proofs.holds.Goals as goal

pub returns : goal.returns
returns c = c.is_within.ensures ∙ ap (is_within _) (through_word _ c.number_at.type_inv ∙ c.number_at.ensures)
