-- Of the number that stands there.
use mathlib.Core.Path.{ap, ◌∙◌}
use lib.IntN.{nat_abs}
use Rattle.laws.proofs.Words.{through_word}
use Rattle.offered.proofs.size_at.Goals as goal

pub returns : goal.returns
returns c = c.size.ensures ∙ ap nat_abs (through_word _ c.number_at.type_inv ∙ c.number_at.ensures)
