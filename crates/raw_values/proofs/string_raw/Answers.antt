-- Each answer about a string, with the byte in which it starts.
use mathlib.Core.Path.{◌∙◌}
use Rattle.string_fields.specs.Text.{said_string}
use Rattle.outcomes.specs.Values.{value_of}
use Rattle.raw_values.specs.RawValues.{said_raw, value_at}
use Rattle.raw_values.proofs.RawLaws.{told}
use Rattle.raw_values.proofs.string_raw.Goals as goal

pub returns-in-Ok : goal.returns-in-Ok
unfolding said_raw value_of value_at said_string
returns-in-Ok c = told said_string _ _ _ _ c.string_at.ensures c.in-Ok.is

pub returns-in-Err : goal.returns-in-Err
unfolding said_raw
returns-in-Err c = c.string_refusal.ensures _ ∙ told said_string _ _ _ _ c.string_at.ensures c.in-Err.is
