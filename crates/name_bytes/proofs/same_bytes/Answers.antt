use mathlib.Core.Path.{refl, sym, ◌∙◌}
use native.Mathlib.Omega.{arith}
use Rattle.name_bytes.proofs.NameLaws.{same_more, same_not, same_end, same_length}
use Rattle.name_bytes.proofs.same_bytes.Goals as goal

pub returns-then-a-b : goal.returns-then-a-b
returns-then-a-b c = sym (same_length c.args.a.now c.args.b.now c.if-a-b.true)

pub loop-i-init : goal.loop-i-init
loop-i-init c = (omega arith, omega arith, refl)

pub returns-then-a-i : goal.returns-then-a-i
returns-then-a-i c = let l = c.loop-i in
    let p = c.args in
    sym (same_not p.a.now p.b.now l.i (omega arith) (omega arith) c.if-a-i.true) ∙ l.invariant.2

pub loop-i-preserved : goal.loop-i-preserved
loop-i-preserved c = let l = c.loop-i in
    let p = c.args in
    (omega arith, omega arith, sym (same_more p.a.now p.b.now l.i (omega arith) (omega arith) c.if-a-i.false) ∙ l.invariant.2)

pub returns : goal.returns
returns c = let l = c.loop-i in
    let p = c.args in
    sym (same_end p.a.now p.b.now l.i (omega arith) (omega arith)) ∙ l.invariant.2
