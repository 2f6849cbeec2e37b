-- By the kind of the column.
use mathlib.Core.Path.{ap, ◌∙◌}
use Rattle.column_checks.specs.Schema.{Column}
use Rattle.schemas.specs.Positions.{position_in}
use Rattle.schemas.proofs.positions.position_in.Goals as goal

pub returns : goal.returns
returns c = c.kind_position.ensures ∙ ap (λ (x : Column). position_in x.kind c.args.text.now) c.column_code-code.ensures
