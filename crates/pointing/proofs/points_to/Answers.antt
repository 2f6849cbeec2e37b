-- By the reason.
use Rattle.pointing.proofs.StepLaws.{points_shares, points_counted, points_named, points_follower, points_none}
use Rattle.pointing.proofs.points_to.Goals as goal

pub returns-then-reason-eq9 : goal.returns-then-reason-eq9
returns-then-reason-eq9 c = points_shares _ _ _ _ _ _ c.half_at-verdict.ensures c.if-reason-eq9.true _ c.shares.ensures

pub returns-then-reason-eq10 : goal.returns-then-reason-eq10
returns-then-reason-eq10 c = points_counted _ _ _ _ _ _ c.half_at-verdict.ensures c.if-reason-eq10.true _ c.is_counted.ensures

pub returns-then-reason-eq11 : goal.returns-then-reason-eq11
returns-then-reason-eq11 c = points_named _ _ _ _ _ _ c.half_at-verdict.ensures c.if-reason-eq11.true _ c.names_at.ensures

pub returns-then-reason-eq12 : goal.returns-then-reason-eq12
returns-then-reason-eq12 c = points_follower _ _ _ _ _ _ c.half_at-verdict.ensures c.if-reason-eq12.true _ c.follows.ensures

pub returns : goal.returns
returns c = points_none _ _ _ _ _ _ c.half_at-verdict.ensures c.if-reason-eq9.false
    c.if-reason-eq10.false c.if-reason-eq11.false c.if-reason-eq12.false
