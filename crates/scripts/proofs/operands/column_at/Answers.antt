use mathlib.Core.Path.{◌≡◌, sym, ◌∙◌}
use Prim.Native.Nat.{suc, ◌+◌, ◌-◌}
use native.Mathlib.Omega.{arith}
use native.Mathlib.Nat.{sub-zero}
use Rattle.scripts.proofs.OperandLaws.{column_here, column_next, column_none}
use Rattle.scripts.proofs.operands.column_at.Goals as goal

pub loop-i-init : goal.loop-i-init
loop-i-init c = (omega arith, omega arith, rw sub-zero)

pub returns-then-text-end : goal.returns-then-text-end
returns-then-text-end c = let l = c.loop-i in
    let a = c.args in
    let e = c.column_end-end in
    let z : a.k - l.i ≡ suc (a.k - (l.i + 1)) = omega arith in
    sym (column_none a.text.now l.start e.result e.ensures (a.k - (l.i + 1)) (omega arith)) ∙ rw z at l.invariant.2

pub loop-i-preserved : goal.loop-i-preserved
loop-i-preserved c = let l = c.loop-i in
    let a = c.args in
    let e = c.column_end-end in
    let z : a.k - l.i ≡ suc (a.k - (l.i + 1)) = omega arith in
    let n = sym (column_next a.text.now l.start e.result e.ensures (a.k - (l.i + 1)) (omega arith)) in
    (omega arith, omega arith, n ∙ rw z at l.invariant.2)

pub returns : goal.returns
returns c = let l = c.loop-i in
    let a = c.args in
    let e = c.column_end in
    let z : a.k - l.i ≡ 0 = omega arith in
    c.part.ensures ∙ sym (column_here a.text.now l.start e.result e.ensures) ∙ rw z at l.invariant.2
