-- The invariant: the first i marks are written, and the rows marked as ended are such rows.
use Rattle.laws.specs.Prefix.{flag}
use Rattle.laws.proofs.Values.{Writing}
use Rattle.chain_steps.specs.Chains.{comes_to}
use Rattle.chains.specs.Courses.{KnownEnds}
use Rattle.chains.proofs.circles.mark_circles.Given as goal

abbrev pub invariant-loop-i : goal.invariant-loop-i
invariant-loop-i l = Writing (λ k. flag (comes_to l.next k l.n k)) l.n l.initial.circles l.circles l.i × KnownEnds l.next l.ended
