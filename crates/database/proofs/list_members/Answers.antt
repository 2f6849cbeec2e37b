use Rattle.database.proofs.MemberLaws.{listing_none, listing_more, listing_ended, listing_full}
use Rattle.database.proofs.list_members.Goals as goal

pub loop-n-init : goal.loop-n-init
loop-n-init c = (listing_none _ _ _, c.keyed_at-at.ensures.1)

pub returns-then-at-eq0 : goal.returns-then-at-eq0
returns-then-at-eq0 c = let hh = rw c.keyed_at-at.ensures.0 at (listing_ended _ _ _ _ _ _ c.loop-n.invariant.0 c.if-at-eq0.true) in record { value = hh.0; places_after = hh.1.0; upper_bound = hh.1.1 }

pub loop-n-preserved : goal.loop-n-preserved
loop-n-preserved c = (
  listing_more _ _ _ _ _ _ c.loop-n.invariant.0 c.loop-n-test.true c.if-at-eq0.false _ c.column_at-at.ensures.0,
  c.column_at-at.ensures.1,
)

pub returns : goal.returns
returns c = let hh = rw c.keyed_at-at.ensures.0 at (listing_full _ _ _ _ _ _ c.loop-n.invariant.0 c.loop-n-test.false) in record { value = hh.0; places_after = hh.1.0; upper_bound = hh.1.1 }
