-- The invariant: the rows passed are counted.
use Prim.Native.Nat.{◌≤◌}
use Rattle.passes.specs.Counts.{Counted}
use Rattle.passes.proofs.counts.count_ids.Given as goal

abbrev pub invariant-loop-i : goal.invariant-loop-i
invariant-loop-i l = (l.i ≤ l.n) × Counted l.marks l.ids l.initial.counts l.counts l.i
