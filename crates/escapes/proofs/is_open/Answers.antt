-- The last byte, where there is one.
use mathlib.Core.Path.{sym, refl}
use Rattle.escapes.specs.Escapes.{is_open}
use Rattle.escapes.proofs.EscapeLaws.{open_none}
use Rattle.escapes.proofs.is_open.Goals as goal

pub returns-then-raw-eq0 : goal.returns-then-raw-eq0
returns-then-raw-eq0 c = sym (open_none _ c.if-raw-eq0.true)

pub returns : goal.returns
unfolding is_open
returns c = refl
