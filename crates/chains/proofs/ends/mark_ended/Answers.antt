use Rattle.chains.proofs.EndLaws.{ends_on, known_more}
use Rattle.chains.proofs.ends.mark_ended.Goals as goal

pub loop-left-init : goal.loop-left-init
loop-left-init c = c.requires

pub returns-then-at-ge-PLACES : goal.returns-then-at-ge-PLACES
returns-then-at-ge-PLACES c = c.loop-left.invariant.0

pub returns-then-ended-at-eq1 : goal.returns-then-ended-at-eq1
returns-then-ended-at-eq1 c = c.loop-left.invariant.0

pub returns-then-row-eq-NO_NEXT : goal.returns-then-row-eq-NO_NEXT
returns-then-row-eq-NO_NEXT c = let l = c.loop-left in known_more _ _ _ l.invariant.0 l.invariant.1

pub loop-left-preserved : goal.loop-left-preserved
loop-left-preserved c = let l = c.loop-left in
    (known_more _ _ _ l.invariant.0 l.invariant.1, ends_on _ l.at _ c.next_row-row.ensures c.if-row-eq-NO_NEXT.false l.invariant.1)

pub returns : goal.returns
returns c = c.loop-left.invariant.0
