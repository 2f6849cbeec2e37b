-- Each error as what is made of it.
use Rattle.fields.specs.Field.{said_error}
use Rattle.outcomes.specs.Refusals.{refused_by, refusal_number, refusal_place}
use Rattle.raw_values.specs.RawValues.{value_at}
use Rattle.raw_values.proofs.field_refusal.Goals as goal

pub returns-in-Outside : goal.returns-in-Outside
unfolding said_error refused_by refusal_number refusal_place value_at
returns-in-Outside c make = rw c.in-Outside.is

pub returns-in-NoWidth : goal.returns-in-NoWidth
unfolding said_error refused_by refusal_number refusal_place value_at
returns-in-NoWidth c make = rw c.in-NoWidth.is
