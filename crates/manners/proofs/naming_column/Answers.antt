-- The constants are the list's.
use mathlib.Core.Path.{◌∙◌}
use Rattle.manners.specs.Manners.{manners}
use Rattle.manners.proofs.MannerLaws.{by_code}
use Rattle.manners.proofs.naming_column.Goals as goal

pub returns : goal.returns
unfolding manners
returns c = c.at_or.ensures ∙ by_code (λ m. m.column) _
