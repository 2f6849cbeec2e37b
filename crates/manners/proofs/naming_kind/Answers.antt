-- The constants are the list's.
use mathlib.Core.Path.{◌∙◌}
use Rattle.manners.specs.Manners.{manners, weight, kind_weight}
use Rattle.manners.proofs.MannerLaws.{by_code}
use Rattle.manners.proofs.naming_kind.Goals as goal

pub returns : goal.returns
unfolding manners weight
returns c = c.at_or.ensures ∙ by_code (λ m. kind_weight m.kind) _
