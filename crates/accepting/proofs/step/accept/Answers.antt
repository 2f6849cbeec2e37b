-- Taken, or refused.
use mathlib.Core.Path.{refl}
use Rattle.outcomes.specs.Outcome.{and_then}
use Rattle.outcomes.specs.Refusals.{said, refused_by}
use Rattle.accepting.specs.Accepted.{accepted, state_after}
use Rattle.accepting.specs.Answer.{said_step}
use Rattle.accepting.proofs.step.accept.Goals as goal

pub returns-in-Ok : goal.returns-in-Ok
unfolding and_then said accepted state_after said_step
returns-in-Ok c = rw c.in-Ok.is (record { said = refl; after = refl })

pub returns-in-Err : goal.returns-in-Err
unfolding and_then said refused_by
returns-in-Err c = rw c.in-Err.is c.refuse.ensures
