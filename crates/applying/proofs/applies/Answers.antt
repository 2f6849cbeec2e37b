-- A check without RLCHK applies; else the raw value of RLCHK decides, where there is one.
use mathlib.Core.Path.{◌≡◌, ap, ◌∙◌}
use mir.Facts.{to_z-of_z}
use mir.Syntax.{w64}
use mir.Val.{SFits, to_z, of_z}
use borrow.Author.Rules.{rules}
use borrow.Author.Tests.{not-true, not-false}
use Rattle.applying.specs.Checks.{has_value}
use Rattle.applying.proofs.ApplyLaws.{applies_free, applies_nowhere, applies_located}
use Rattle.applying.proofs.applies.Goals as goal

pub returns-then-not-row : goal.returns-then-not-row
returns-then-not-row c = applies_free _ _ _ _ (not-true _ c.if-not-row.true)

pub returns-in_default : goal.returns-in_default
returns-in_default c = applies_nowhere _ _ _ _ _ _ _ (not-false _ c.if-not-row.false) (c.locate.ensures _) c.in_default.is

pub returns : goal.returns
returns c =
    let valpar-word : to_z w64 (of_z w64 c.args.row.valpar) ≡ c.args.row.valpar = let f : SFits w64 c.args.row.valpar = search rules in
    to_z-of_z f in
    applies_located _ _ _ c.args.row _ _ _ (not-false _ c.if-not-row.false) (c.locate.ensures _) c.in-Some.is
    _ _ c.pcf_at-pcf.ensures (c.raw_of.ensures _ c.location_at-location.ensures) (c.has_value.ensures ∙ ap (has_value _) valpar-word)
