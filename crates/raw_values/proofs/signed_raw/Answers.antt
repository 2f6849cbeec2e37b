-- Each answer about a signed field, with the byte in which it starts.
use mathlib.Core.Path.{◌∙◌}
use Rattle.fields.specs.Sign.{said_signed}
use Rattle.outcomes.specs.Values.{value_of}
use Rattle.raw_values.specs.RawValues.{said_raw, value_at}
use Rattle.raw_values.proofs.RawLaws.{told, signed_number}
use Rattle.raw_values.proofs.signed_raw.Goals as goal

pub returns-in-Ok : goal.returns-in-Ok
unfolding said_raw value_of value_at said_signed
returns-in-Ok c = signed_number _ _ _ _ c.read_signed.ensures _ c.in-Ok.is

pub returns-in-Err : goal.returns-in-Err
unfolding said_raw said_signed
returns-in-Err c = c.field_refusal.ensures _ ∙ told said_signed _ _ _ _ c.read_signed.ensures c.in-Err.is
