-- By whether a key is named.
use mathlib.Core.Path.{ap}
use mathlib.Core.Bool.{not}
use borrow.Author.Tests.{eq-eqb, ne_eqb}
use Rattle.kept.proofs.IdLaws.{entered_none, entered_some}
use Rattle.kept.proofs.interning.intern_named.Goals as goal

pub returns-then-name-ne0 : goal.returns-then-name-ne0
returns-then-name-ne0 c = let e = ap not (ne_eqb _ 0 c.if-name-ne0.true) in
    entered_some _ _ _ c.requires.table _ _ e c.requires.spacious (c.requires.fits e) c.intern.ensures

pub returns : goal.returns
returns c = entered_none _ _ _ c.requires.table _ _ (ap not (eq-eqb _ 0 c.if-name-ne0.false))
