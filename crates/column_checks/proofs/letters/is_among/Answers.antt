use mathlib.Core.Path.{refl, sym, ◌∙◌}
use native.Mathlib.Omega.{arith}
use Rattle.column_checks.specs.ColumnKinds.{all_letters}
use Rattle.column_checks.proofs.ReasonLaws.{among_none, among_here, among_more}
use Rattle.column_checks.proofs.letters.is_among.Goals as goal

pub loop-i-init : goal.loop-i-init
loop-i-init c = (omega arith, omega arith, refl)

pub returns-then-i-b : goal.returns-then-i-b
unfolding all_letters
returns-then-i-b c = sym (among_here _ all_letters c.loop-i.i _ c.loop-i.invariant.1 c.loop-i-test.true c.if-i-b.true) ∙ c.loop-i.invariant.2

pub loop-i-preserved : goal.loop-i-preserved
unfolding all_letters
loop-i-preserved c = (omega arith, c.loop-i.invariant.1, sym (among_more _ all_letters c.loop-i.i _ c.loop-i.invariant.1 c.loop-i-test.true c.if-i-b.false) ∙ c.loop-i.invariant.2)

pub returns : goal.returns
unfolding all_letters
returns c = sym (among_none _ all_letters c.loop-i.i _ c.loop-i.invariant.1 c.loop-i-test.false) ∙ c.loop-i.invariant.2
