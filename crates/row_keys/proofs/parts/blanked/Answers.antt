-- Nothing, or the row as it is.
use mathlib.Core.Path.{refl}
use borrow.Author.Tests.{eq-eqb, ne_eqb}
use Rattle.row_keys.proofs.parts.blanked.Goals as goal

pub returns-then-read-eq0 : goal.returns-then-read-eq0
returns-then-read-eq0 c = record { keys_value = rw (eq-eqb _ 0 c.if-read-eq0.true); next_value = refl }

pub returns : goal.returns
returns c = record { keys_value = rw (ne_eqb _ 0 c.if-read-eq0.false, c.holding-keys.ensures); next_value = refl }
