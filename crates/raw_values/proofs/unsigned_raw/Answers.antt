-- Each answer about an unsigned field, with the byte in which it starts.
use mathlib.Core.Path.{◌∙◌}
use Rattle.fields.specs.Field.{said_unsigned}
use Rattle.outcomes.specs.Values.{value_of}
use Rattle.raw_values.specs.RawValues.{said_raw, value_at}
use Rattle.raw_values.proofs.RawLaws.{told, unsigned_fits, unsigned_number}
use Rattle.raw_values.proofs.unsigned_raw.Goals as goal

pub overflow_cast-result : goal.overflow_cast-result
overflow_cast-result c = unsigned_fits _ _ _ _ c.read_unsigned.ensures _ c.requires c.in-Ok.is

pub returns-in-Ok : goal.returns-in-Ok
unfolding said_raw value_of value_at said_unsigned
returns-in-Ok c = unsigned_number _ _ _ _ c.read_unsigned.ensures _ c.requires c.in-Ok.is

pub returns-in-Err : goal.returns-in-Err
unfolding said_raw said_unsigned
returns-in-Err c = c.field_refusal.ensures _ ∙ told said_unsigned _ _ _ _ c.read_unsigned.ensures c.in-Err.is
