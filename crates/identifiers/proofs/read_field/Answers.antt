-- By the field's case.
use Rattle.identifiers.specs.Identifiers.{identifier_at}
use Rattle.outcomes.specs.Refusals.{said}
use Rattle.identifiers.proofs.read_field.Goals as goal

pub returns-in-Unused : goal.returns-in-Unused
unfolding said identifier_at
returns-in-Unused c = rw c.in-Unused.is

pub returns-in-At : goal.returns-in-At
unfolding identifier_at
returns-in-At c = rw c.in-At.is c.field_at.ensures
