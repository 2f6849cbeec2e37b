-- A row with one of reasons 1 to 8 has nothing.
use mathlib.Core.Path.{◌∙◌}
use Rattle.keys.specs.Held.{keys_of}
use Rattle.keys.proofs.CaseLaws.{row_blanked}
use Rattle.keys.proofs.line_keys.Goals as goal

pub returns : goal.returns
unfolding keys_of
returns c = record { keys_value = c.blanked.ensures.keys_value ∙ rw c.column_keys.ensures.keys (row_blanked _ _); next_value = c.blanked.ensures.next_value ∙ c.column_keys.ensures.next }
