-- What is refused can't be read.
use mathlib.Core.Path.{◌∙◌}
use Rattle.outcomes.specs.Outcome.{and_then}
use Rattle.outcomes.specs.Refusals.{refused_by}
use Rattle.raw_values.specs.RawValues.{said_raw}
use Rattle.readings.specs.Readings.{agrees}
use Rattle.located_readings.specs.Asked.{asked_agrees}
use Rattle.located_readings.proofs.follow.raw_asked.Goals as goal

pub returns-in-Ok : goal.returns-in-Ok
unfolding said_raw and_then
returns-in-Ok c valid valpar = c.value_asked.ensures valid valpar ∙ rw c.in-Ok.is

pub returns-in-Err : goal.returns-in-Err
unfolding said_raw and_then refused_by agrees asked_agrees
returns-in-Err c valid valpar = rw c.in-Err.is
