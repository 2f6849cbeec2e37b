-- The invariant: the rows marked are rows whose chain ends, and so is the row at hand.
use Rattle.chains.specs.Courses.{Ends, KnownEnds}
use Rattle.chains.proofs.ends.mark_ended.Given as goal

abbrev pub invariant-loop-left : goal.invariant-loop-left
invariant-loop-left l = KnownEnds l.next l.ended × Ends l.next l.at

abbrev pub decreases-loop-left : goal.decreases-loop-left
decreases-loop-left l = l.left
