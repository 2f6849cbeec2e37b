-- A value that is read is compared.
use mathlib.Core.Path.{ap, ◌∙◌}
use mir.Facts.{to_z-of_z}
use Rattle.outcomes.specs.Refusals.{refused_by}
use Rattle.raw_values.specs.RawValues.{said_raw}
use Rattle.readings.specs.Readings.{equals}
use Rattle.applying.specs.Checks.{has_value}
use Rattle.applying.proofs.has_value.Goals as goal

pub returns-in-Ok : goal.returns-in-Ok
unfolding has_value said_raw
returns-in-Ok c = c.equals.ensures ∙ ap (equals _) (to_z-of_z c.ranges.valpar) ∙ rw c.in-Ok.is

pub returns-in-Err : goal.returns-in-Err
unfolding has_value said_raw refused_by
returns-in-Err c = rw c.in-Err.is
