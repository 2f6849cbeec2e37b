-- Case by case.
use Rattle.std.specs.Prelude.{Some}
use Rattle.std.proofs.Common.{ap}
use Rattle.outcomes.specs.Refusals.{refused_by}
use Rattle.readings.specs.Readings.{said_reading}
use Rattle.surveying.specs.Told.{tell_reading}
use Rattle.surveying.proofs.asking.tell_reading.Goals as goal

pub returns-then-read : goal.returns-then-read
unfolding tell_reading said_reading
returns-then-read c = rw (c.in-Ok.is, c.if-read.true) (ap Some c.weigh.ensures)

pub returns-else-read : goal.returns-else-read
unfolding tell_reading said_reading
returns-else-read c = rw (c.in-Ok.is, c.if-read.false)

pub returns-in-Err : goal.returns-in-Err
unfolding tell_reading said_reading refused_by
returns-in-Err c = rw c.in-Err.is
