-- Each error as what is made of it.
use Rattle.string_fields.specs.Text.{said_string}
use Rattle.outcomes.specs.Refusals.{refused_by, refusal_number, refusal_place}
use Rattle.raw_values.specs.RawValues.{value_at}
use Rattle.raw_values.proofs.string_refusal.Goals as goal

pub returns-in-Outside : goal.returns-in-Outside
unfolding said_string refused_by refusal_number refusal_place value_at
returns-in-Outside c make = rw c.in-Outside.is

pub returns-in-OffByte : goal.returns-in-OffByte
unfolding said_string refused_by refusal_number refusal_place value_at
returns-in-OffByte c make = rw c.in-OffByte.is

pub returns-in-NoBytes : goal.returns-in-NoBytes
unfolding said_string refused_by refusal_number refusal_place value_at
returns-in-NoBytes c make = rw c.in-NoBytes.is
