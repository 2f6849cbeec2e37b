use mathlib.Core.Path.{refl, sym, ◌∙◌}
use Rattle.chain_steps.proofs.ChainLaws.{comes_never, comes_hit, comes_on}
use Rattle.chain_steps.proofs.CircleLaws.{passed_here, passed_on, comes_again}
use Rattle.chains.proofs.EndLaws.{ends_here, ends_from_lem, course_ends, course_returns, course_rounds}
use Rattle.chains.proofs.ends.follow.Goals as goal

pub loop-left-init : goal.loop-left-init
loop-left-init c = (refl, passed_here _ _ _, λ e. e)

pub returns-then-byte_at-eq1 : goal.returns-then-byte_at-eq1
returns-then-byte_at-eq1 c = course_ends _ _ _ (c.loop-left.invariant.2 (c.requires.row c.loop-left.at (sym c.byte_at.ensures ∙ c.if-byte_at-eq1.true)))

pub returns-then-row-eq-NO_NEXT : goal.returns-then-row-eq-NO_NEXT
returns-then-row-eq-NO_NEXT c = let l = c.loop-left in
    course_ends _ _ _ (l.invariant.2 (ends_here _ l.at _ c.next_row-row.ensures c.if-row-eq-NO_NEXT.true))

pub returns-then-row-i : goal.returns-then-row-i
returns-then-row-i c = let l = c.loop-left in
    course_returns _ _ _ (comes_hit _ _ l.left l.at c.loop-left-test.true _ c.next_row-row.ensures c.if-row-eq-NO_NEXT.false c.if-row-i.true ∙ l.invariant.0)

pub returns-then-row-passed : goal.returns-then-row-passed
returns-then-row-passed c = let l = c.loop-left in
    course_rounds _ _ _
    (comes_again _ _ l.at _ c.next_row-row.ensures c.if-row-eq-NO_NEXT.false c.if-row-i.false _ l.left l.invariant.1 c.if-row-passed.true
    c.loop-left-test.true ∙ l.invariant.0)

pub loop-left-preserved-then-wait-eq0 : goal.loop-left-preserved-then-wait-eq0
loop-left-preserved-then-wait-eq0 c = let l = c.loop-left in (
  comes_on _ _ l.left l.at c.loop-left-test.true _ c.next_row-row.ensures c.if-row-eq-NO_NEXT.false c.if-row-i.false ∙ l.invariant.0,
  passed_here _ _ _,
  λ f. l.invariant.2 (ends_from_lem _ l.at _ c.next_row-row.ensures c.if-row-eq-NO_NEXT.false f),
)

pub loop-left-preserved : goal.loop-left-preserved
loop-left-preserved c = let l = c.loop-left in (
  comes_on _ _ l.left l.at c.loop-left-test.true _ c.next_row-row.ensures c.if-row-eq-NO_NEXT.false c.if-row-i.false ∙ l.invariant.0,
  passed_on _ _ l.at _ c.next_row-row.ensures c.if-row-eq-NO_NEXT.false c.if-row-i.false _ l.invariant.1,
  λ f. l.invariant.2 (ends_from_lem _ l.at _ c.next_row-row.ensures c.if-row-eq-NO_NEXT.false f),
)

pub returns : goal.returns
returns c = let l = c.loop-left in course_rounds _ _ _ (comes_never _ _ l.left l.at c.loop-left-test.false ∙ l.invariant.0)
