use mathlib.Core.Path.{◌≡◌}
use native.Mathlib.Omega.{arith}
use mir.Facts.{to_z-of_z}
use mir.Syntax.{w64}
use mir.Val.{SFits, to_z, of_z}
use borrow.Author.Rules.{rules}
use Rattle.readings.proofs.ReadingLaws.{not_true, not_false}
use Rattle.located_readings.proofs.FollowLaws.{follow_start, follow_free, follow_unreadable, follow_more, follow_on}
use Rattle.located_readings.proofs.follow.follow.Goals as goal

pub loop-count-init : goal.loop-count-init
loop-count-init c =
    let start_fits : SFits w64 c.args.row.valpar = search rules in
    follow_start _ _ _ _ _ _ c.requires.0 c.requires.1 start_fits

pub returns-then-not-at : goal.returns-then-not-at
returns-then-not-at c = rw c.end_of.ensures (follow_free _ _ _ c.loop-count.invariant (not_true _ c.if-not-at.true))

pub returns-in_default : goal.returns-in_default
returns-in_default c = rw c.end_of-in_default.ensures
    (follow_unreadable _ _ _ c.loop-count.invariant (not_false _ c.if-not-at.false) c.loop-count-test.true _ c.ask.ensures c.in_default.is)

pub loop-count-preserved : goal.loop-count-preserved
loop-count-preserved c =
    let value-word : (to_z w64 (of_z w64 c.in-Some.asked.value) ≡ c.in-Some.asked.value) = let f : SFits w64 c.in-Some.asked.value = search rules in
    to_z-of_z f in
    let row_fits : SFits w64 c.in-Some.asked.row.valpar = search rules in
    follow_more _ _ _ c.loop-count.invariant (not_false _ c.if-not-at.false) c.loop-count-test.true _ c.ask.ensures c.in-Some.is row_fits _ _
    value-word (to_z-of_z c.loop-count.invariant.fits)

pub returns : goal.returns
returns c = follow_on _ _ _ c.loop-count.invariant (λ h. omega (arith, h))
