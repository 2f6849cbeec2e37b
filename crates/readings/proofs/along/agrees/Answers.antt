-- Only a valid reading agrees, where its value does.
use mathlib.Core.Path.{ap, ◌∙◌}
use mir.Facts.{to_z-of_z}
use Rattle.readings.specs.Readings.{equals, agrees, said_reading}
use Rattle.outcomes.specs.Refusals.{refused_by}
use Rattle.readings.proofs.along.agrees.Goals as goal

pub returns-then-read : goal.returns-then-read
unfolding agrees said_reading
returns-then-read c = c.equals.ensures ∙ ap (equals _) (to_z-of_z c.ranges.valpar) ∙ rw (c.in-Ok.is, c.if-read.true)

pub returns-else-read : goal.returns-else-read
unfolding agrees said_reading
returns-else-read c = rw (c.in-Ok.is, c.if-read.false)

pub returns-in-Err : goal.returns-in-Err
unfolding agrees said_reading refused_by
returns-in-Err c = rw c.in-Err.is
