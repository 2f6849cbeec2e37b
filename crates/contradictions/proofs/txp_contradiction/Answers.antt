-- The test is made on the values that the words hold.
use borrow.Author.Rules.{rules}
use mathlib.Core.Path.{◌≡◌}
use lib.Signed.{lt_z}
use mir.Facts.{to_z-of_z}
use mir.Val.{SFits, to_z, of_z}
use mir.Syntax.{w64}
use Rattle.contradictions.specs.Contradictions.{txp_contradiction}
use Rattle.contradictions.proofs.txp_contradiction.Goals as goal

pub returns-then-row : goal.returns-then-row
unfolding txp_contradiction
returns-then-row c =
    let bits : lt_z (to_z w64 (of_z w64 c.args.row.to)) (to_z w64 (of_z w64 c.args.row.from)) ≡ lt_z c.args.row.to c.args.row.from = let f : SFits w64 c.args.row.to = search rules in
    let g : SFits w64 c.args.row.from = search rules in
    rw (to_z-of_z f, to_z-of_z g) in
    rw (← bits, c.if-row.true)

pub returns : goal.returns
unfolding txp_contradiction
returns c =
    let bits : lt_z (to_z w64 (of_z w64 c.args.row.to)) (to_z w64 (of_z w64 c.args.row.from)) ≡ lt_z c.args.row.to c.args.row.from = let f : SFits w64 c.args.row.to = search rules in
    let g : SFits w64 c.args.row.from = search rules in
    rw (to_z-of_z f, to_z-of_z g) in
    rw (← bits, c.if-row.false)
