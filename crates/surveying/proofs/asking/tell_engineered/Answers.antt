-- Case by case.
use Rattle.std.specs.Prelude.{Some}
use Rattle.std.proofs.Common.{ap}
use Rattle.outcomes.specs.Refusals.{refused_by}
use Rattle.engineering.specs.Engineering.{said_engineered}
use Rattle.surveying.specs.Told.{tell_engineered}
use Rattle.surveying.proofs.asking.tell_engineered.Goals as goal

pub returns-in-Is : goal.returns-in-Is
unfolding tell_engineered said_engineered
returns-in-Is c = rw (c.in-Ok.is, c.in-Is.is) (ap Some c.weigh.ensures)

pub returns-in-Double : goal.returns-in-Double
unfolding tell_engineered said_engineered
returns-in-Double c = rw (c.in-Ok.is, c.in-Double.is) (ap Some c.bits_of.ensures)

pub returns-in-Text : goal.returns-in-Text
unfolding tell_engineered said_engineered
returns-in-Text c = rw (c.in-Ok.is, c.in-Text.is)

pub returns-in-Err : goal.returns-in-Err
unfolding tell_engineered said_engineered refused_by
returns-in-Err c = rw c.in-Err.is
