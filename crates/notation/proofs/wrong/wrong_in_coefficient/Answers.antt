use mathlib.Core.Path.{sym, ◌∙◌}
use native.Mathlib.Omega.{arith}
use Rattle.laws.specs.Walks.{wrong_at}
use Rattle.notation.proofs.Beginnings.{leads_more, leads_none, leads_past}
use borrow.Author.Rules.{rules}
use Rattle.notation.proofs.wrong.wrong_in_coefficient.Goals as goal

pub loop-i-init : goal.loop-i-init
loop-i-init c = (search rules, omega arith)

pub returns-then-is_stuck : goal.returns-then-is_stuck
unfolding wrong_at
returns-then-is_stuck c = let z = leads_none c.loop-i.s c.next_stage-s.result c.args.text.now c.loop-i.i (omega arith) c.next_stage-s.ensures
    (sym c.is_stuck.ensures ∙ c.if-is_stuck.true) in
    omega (arith, c.loop-i.invariant.1, z)

pub loop-i-preserved : goal.loop-i-preserved
loop-i-preserved c = let m = leads_more c.loop-i.s c.next_stage-s.result c.args.text.now c.loop-i.i (omega arith) c.next_stage-s.ensures
    (sym c.is_stuck.ensures ∙ c.if-is_stuck.false) in
    (omega arith, omega (arith, c.loop-i.invariant.1, m))

pub returns : goal.returns
unfolding wrong_at
returns c = let z = leads_past c.loop-i.s c.args.text.now c.loop-i.i (omega arith) in
    omega (arith, c.loop-i.invariant.1, z)
