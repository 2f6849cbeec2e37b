-- The invariant: what was passed of the chain, and that what is left of it is firm where all of it is.
use Rattle.chains.proofs.DepthLaws.{Behind}
use Rattle.chains.proofs.firm.firm_depth.Given as goal

abbrev pub invariant-loop-left : goal.invariant-loop-left
invariant-loop-left l = Behind l.next l.firm l.n l.i l.left l.at

abbrev pub decreases-loop-left : goal.decreases-loop-left
decreases-loop-left l = l.left
