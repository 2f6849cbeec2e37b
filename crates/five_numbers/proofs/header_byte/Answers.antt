-- By the flag.
use mathlib.Core.Path.{◌∙◌}
use Rattle.five_numbers.proofs.header_byte.Goals as goal

pub returns-then-head : goal.returns-then-head
returns-then-head c = rw c.if-head.true (c.wide.ensures ∙ c.byte_at.ensures)
