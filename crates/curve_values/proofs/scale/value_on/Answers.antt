-- As it was read, or along the points.
use mathlib.Core.Path.{ap, ◌∙◌}
use mir.Facts.{to_z-of_z}
use Rattle.outcomes.specs.Outcome.{answer}
use Rattle.outcomes.specs.Refusals.{said}
use Rattle.curve_values.proofs.ScaleLaws.{on_read, on_points}
use Rattle.curve_values.proofs.scale.value_on.Goals as goal

pub returns-in-AsRead : goal.returns-in-AsRead
unfolding said
returns-in-AsRead c = ap answer (to_z-of_z c.ranges.raw) ∙ on_read _ _ _ c.in-AsRead.is

pub returns-in-Along : goal.returns-in-Along
returns-in-Along c = on_points _ _ _ c.in-Along.is (to_z-of_z c.ranges.raw) c.value_along.ensures
