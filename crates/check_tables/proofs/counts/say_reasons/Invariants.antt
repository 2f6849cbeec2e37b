-- One reason after the other.
use Prim.Native.Nat.{◌-◌, ◌≤◌}
use Rattle.check_tables.proofs.counts.say_reasons.Given as goal

abbrev pub invariant-loop-reason : goal.invariant-loop-reason
invariant-loop-reason g l = l.reason ≤ 15

abbrev pub decreases-loop-reason : goal.decreases-loop-reason
decreases-loop-reason g l = 15 - l.reason
