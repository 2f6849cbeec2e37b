-- Case by case.
use mathlib.Core.Path.{refl, ap}
use Rattle.readings.specs.Readings.{said_reading}
use Rattle.plain_answers.specs.Values.{of_reading}
use Rattle.telling.proofs.TellingLaws.{plain_refused, plain_values}
use Rattle.plain_answers.proofs.tell_extracted.Goals as goal

pub returns-in-Ok : goal.returns-in-Ok
unfolding said_reading
returns-in-Ok c = plain_values of_reading _ (ap said_reading c.in-Ok.is) c.tell_read.ensures refl

pub returns-in-Err : goal.returns-in-Err
unfolding said_reading
returns-in-Err c = plain_refused of_reading _ (ap said_reading c.in-Err.is) c.tell_refusal.ensures
