use native.Mathlib.Omega.{arith}
use Rattle.chains.proofs.DepthLaws.{firm_rest, depths_more}
use Rattle.chains.proofs.firm.keep_depths.Goals as goal

pub loop-left-init : goal.loop-left-init
loop-left-init c = c.requires

pub returns-then-at-ge-PLACES : goal.returns-then-at-ge-PLACES
returns-then-at-ge-PLACES c = c.loop-left.invariant.0

pub returns-then-depths-at-ne0 : goal.returns-then-depths-at-ne0
returns-then-depths-at-ne0 c = c.loop-left.invariant.0

pub returns-then-left-gt65535 : goal.returns-then-left-gt65535
returns-then-left-gt65535 c = c.loop-left.invariant.0

pub returns-then-row-eq-NO_NEXT : goal.returns-then-row-eq-NO_NEXT
returns-then-row-eq-NO_NEXT c = let l = c.loop-left in
    depths_more _ _ _ _ _ l.invariant.0 (l.invariant.1 (λ q. omega (arith, q, c.loop-left-test.true)))

pub loop-left-preserved : goal.loop-left-preserved
loop-left-preserved c = let l = c.loop-left in
    let firm = l.invariant.1 (λ q. omega (arith, q, c.loop-left-test.true)) in
    (depths_more _ _ _ _ _ l.invariant.0 firm, λ q. firm_rest _ _ l.left l.at c.loop-left-test.true _ c.next_row-row.ensures c.if-row-eq-NO_NEXT.false firm)

pub returns : goal.returns
returns c = c.loop-left.invariant.0
