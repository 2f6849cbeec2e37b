use mathlib.Core.Path.{sym, ◌∙◌}
use Prim.Native.Nat.{ℕ}
use native.Mathlib.Omega.{arith}
use Rattle.chain_steps.proofs.ChainLaws.{firm_never, firm_not, firm_end, firm_on}
use Rattle.chains.proofs.DepthLaws.{behind_none, behind_more, is_deep, not_good}
use Rattle.chains.proofs.firm.firm_depth.Goals as goal

pub loop-left-init : goal.loop-left-init
loop-left-init c = behind_none _ _ _ _

pub overflow_sub-result : goal.overflow_sub-result
overflow_sub-result c = c.loop-left.invariant.most

pub overflow_add-result : goal.overflow_add-result
overflow_add-result c = omega (arith, c.loop-left.invariant.most)

pub returns-then-depth-left : goal.returns-then-depth-left
returns-then-depth-left c = let l = c.loop-left in
    let some = c.if-depth-gt0.true in
    is_deep _ _ _ _ _ _ l.invariant _ some c.if-depth-left.true
    (rw c.depth_at-depth.ensures (c.requires.row l.at (λ q. omega (arith, q, c.depth_at-depth.ensures, some))))

pub returns-then-byte_at-ne1 : goal.returns-then-byte_at-ne1
returns-then-byte_at-ne1 c = let l = c.loop-left in
    not_good _ _ _ _ (firm_not _ _ l.left l.at c.loop-left-test.true _ c.byte_at.ensures c.if-byte_at-ne1.true ∙ l.invariant.same)

pub overflow_sub-result-then-row-eq-NO_NEXT : goal.overflow_sub-result-then-row-eq-NO_NEXT
overflow_sub-result-then-row-eq-NO_NEXT c = c.loop-left.invariant.most

pub overflow_add-result-then-row-eq-NO_NEXT : goal.overflow_add-result-then-row-eq-NO_NEXT
overflow_add-result-then-row-eq-NO_NEXT c = omega (arith, c.loop-left-test.true, c.loop-left.invariant.most)

pub returns-then-row-eq-NO_NEXT : goal.returns-then-row-eq-NO_NEXT
returns-then-row-eq-NO_NEXT c = let l = c.loop-left in
    is_deep _ _ _ _ _ _ l.invariant 1 (omega arith) (omega (arith, c.loop-left-test.true))
    (sym (firm_end _ _ 1 l.at (omega arith) _ c.byte_at.ensures c.if-byte_at-ne1.false _
    c.next_row-row.ensures c.if-row-eq-NO_NEXT.true))

pub loop-left-preserved : goal.loop-left-preserved
loop-left-preserved c = let l = c.loop-left in
    behind_more _ _ _ _ _ _ l.invariant _ c.loop-left-test.true
    (λ (k : ℕ) h. firm_on _ _ k l.at h _ c.byte_at.ensures c.if-byte_at-ne1.false _ c.next_row-row.ensures
    c.if-row-eq-NO_NEXT.false)

pub returns : goal.returns
returns c = let l = c.loop-left in not_good _ _ _ _ (firm_never _ _ l.left l.at c.loop-left-test.false ∙ l.invariant.same)
