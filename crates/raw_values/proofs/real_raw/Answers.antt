-- Each answer about the field, with the byte in which it starts.
use mathlib.Core.Path.{◌∙◌}
use Rattle.fields.specs.Field.{said_unsigned}
use Rattle.outcomes.specs.Values.{value_of}
use Rattle.raw_values.specs.RawValues.{said_raw}
use Rattle.raw_values.proofs.RawLaws.{told, real_told}
use Rattle.raw_values.proofs.real_raw.Goals as goal

pub returns-in-Ok : goal.returns-in-Ok
unfolding said_raw value_of
returns-in-Ok c = real_told _ _ _ _ _ c.read_unsigned.ensures _ c.in-Ok.is c.real_bits.ensures
    c.bits_told.ensures

pub returns-in-Err : goal.returns-in-Err
unfolding said_raw said_unsigned
returns-in-Err c = c.field_refusal.ensures _ ∙ told said_unsigned _ _ _ _ c.read_unsigned.ensures c.in-Err.is
