-- By whether a key is given.
use mathlib.Core.Path.{ap}
use Rattle.std.specs.Prelude.{is_some}
use Rattle.row_keys.specs.Parts.{key_in}
use Rattle.kept.proofs.IdLaws.{entered_none, entered_some}
use Rattle.kept.proofs.interning.intern_slot.Goals as goal

pub returns-in-Some : goal.returns-in-Some
returns-in-Some c = let given = ap is_some c.in-Some.is in let key = ap key_in c.in-Some.is in
    entered_some _ _ _ c.requires.table _ _ given c.requires.spacious (c.requires.fits given) (rw key c.intern.ensures)

pub returns-in-None : goal.returns-in-None
returns-in-None c = entered_none _ _ _ c.requires.table _ _ (ap is_some c.in-None.is)
