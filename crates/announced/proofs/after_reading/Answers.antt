-- `limits::severity::after_reading` meets its contract, severity by severity.
use Rattle.announced.specs.Announced.{after_reading}
use Rattle.announced.proofs.after_reading.Goals as goal

pub returns-in-Within : goal.returns-in-Within
unfolding after_reading
returns-in-Within c = rw c.in-Within.is

pub returns-in-Soft : goal.returns-in-Soft
unfolding after_reading
returns-in-Soft c = rw c.in-Soft.is c.violate.ensures

pub returns-in-Hard : goal.returns-in-Hard
unfolding after_reading
returns-in-Hard c = rw c.in-Hard.is c.violate-in-Hard.ensures
