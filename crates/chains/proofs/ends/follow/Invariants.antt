-- The invariant: what is left of the steps comes to row i where all of them do, the row kept was passed without coming
-- to it, and where the chain ends from here on it ends from row i on.
use mathlib.Core.Path.{◌≡◌}
use Rattle.chain_steps.specs.Chains.{comes_to}
use Rattle.chains.specs.Courses.{Ends}
use Rattle.chain_steps.proofs.CircleLaws.{Passed}
use Rattle.chains.proofs.ends.follow.Given as goal

abbrev pub invariant-loop-left : goal.invariant-loop-left
invariant-loop-left l =
    (comes_to l.next l.i l.left l.at ≡ comes_to l.next l.i l.n l.i) × Passed l.next l.i l.passed l.at × (Ends l.next l.at → Ends l.next l.i)

abbrev pub decreases-loop-left : goal.decreases-loop-left
decreases-loop-left l = l.left
