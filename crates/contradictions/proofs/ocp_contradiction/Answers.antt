-- The type, then the limits, on the values that the words hold.
use mathlib.Core.Path.{◌≡◌}
use lib.Signed.{lt_z}
use mir.Facts.{to_z-of_z}
use mir.Val.{SFits, to_z, of_z}
use mir.Syntax.{w64}
use Rattle.contradictions.specs.Contradictions.{ocp_contradiction}
use borrow.Author.Rules.{rules}
use Rattle.contradictions.proofs.ocp_contradiction.Goals as goal

pub returns-then-row : goal.returns-then-row
unfolding ocp_contradiction
returns-then-row c =
    let bits : lt_z (to_z w64 (of_z w64 c.args.row.hvalu)) (to_z w64 (of_z w64 c.args.row.lvalu)) ≡ lt_z c.args.row.hvalu c.args.row.lvalu = let f : SFits w64 c.args.row.hvalu = search rules in
    let g : SFits w64 c.args.row.lvalu = search rules in
    rw (to_z-of_z f, to_z-of_z g) in
    rw (← c.is_carried_check.ensures, c.if-is_carried_check.true, ← bits, c.if-row.true)

pub returns-then-is_carried_check : goal.returns-then-is_carried_check
unfolding ocp_contradiction
returns-then-is_carried_check c =
    let bits : lt_z (to_z w64 (of_z w64 c.args.row.hvalu)) (to_z w64 (of_z w64 c.args.row.lvalu)) ≡ lt_z c.args.row.hvalu c.args.row.lvalu = let f : SFits w64 c.args.row.hvalu = search rules in
    let g : SFits w64 c.args.row.lvalu = search rules in
    rw (to_z-of_z f, to_z-of_z g) in
    rw (← c.is_carried_check.ensures, c.if-is_carried_check.true, ← bits, c.if-row.false)

pub returns : goal.returns
unfolding ocp_contradiction
returns c = rw (← c.is_carried_check.ensures, c.if-is_carried_check.false)
