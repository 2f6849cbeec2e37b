use mathlib.Core.Path.{◌≡◌}
use native.Mathlib.Omega.{arith}
use mir.Facts.{to_z-of_z}
use mir.Val.{SFits, to_z, of_z}
use mir.Syntax.{w64}
use borrow.Author.Rules.{rules}
use Rattle.checking.proofs.CheckLaws.{fill_start, fill_more, fill_other, fill_done}
use Rattle.checking.proofs.checks.fill_checks.Goals as goal

pub loop-i-init : goal.loop-i-init
loop-i-init c = fill_start _ _ _ _ _ _ _ c.requires.0 c.requires.1

pub loop-i-preserved-then-applies : goal.loop-i-preserved-then-applies
loop-i-preserved-then-applies c =
    let low_word : (to_z w64 (of_z w64 c.ocp_at-row.result.lvalu) ≡ c.ocp_at-row.result.lvalu) = let f : SFits w64 c.ocp_at-row.result.lvalu = search rules in
    to_z-of_z f in
    let high_word : (to_z w64 (of_z w64 c.ocp_at-row.result.hvalu) ≡ c.ocp_at-row.result.hvalu) = let f : SFits w64 c.ocp_at-row.result.hvalu = search rules in
    to_z-of_z f in
    fill_more _ _ _ c.loop-i.invariant c.loop-i-test.true c.ocp_at-row.ensures c.applies.ensures c.if-applies.true
    low_word high_word c.level_of.ensures

pub loop-i-preserved : goal.loop-i-preserved
loop-i-preserved c = fill_other _ _ _ c.loop-i.invariant c.loop-i-test.true c.ocp_at-row.ensures c.applies.ensures c.if-applies.false

pub returns : goal.returns
returns c = record { levels_after = fill_done _ _ _ c.loop-i.invariant c.loop-i-test.false; upper_bound = (omega arith, c.loop-i.invariant.room) }
