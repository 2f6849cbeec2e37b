-- Case by case.
use Rattle.outcomes.specs.Refusals.{refused_by}
use Rattle.identification.specs.Identification.{said_identified}
use Rattle.surveying.specs.Told.{tell_identity}
use Rattle.surveying.proofs.asking.tell_identity.Goals as goal

pub returns-in-Ok : goal.returns-in-Ok
unfolding tell_identity said_identified
returns-in-Ok c = rw c.in-Ok.is

pub returns-in-Err : goal.returns-in-Err
unfolding tell_identity said_identified refused_by
returns-in-Err c = rw c.in-Err.is
