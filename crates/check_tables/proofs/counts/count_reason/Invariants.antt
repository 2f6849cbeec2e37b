-- The rows passed are counted.
use mathlib.Core.Path.{◌≡◌}
use Prim.Native.Nat.{◌-◌, ◌≤◌}
use Rattle.laws.specs.Prefix.{count_with}
use Rattle.check_tables.specs.Reasons.{has_reason}
use Rattle.check_tables.proofs.counts.count_reason.Given as goal

abbrev pub invariant-loop-i : goal.invariant-loop-i
invariant-loop-i l = (l.i ≤ l.n) × (l.count ≤ l.i) × (l.count ≡ count_with (has_reason l.cells l.reason) l.i)

abbrev pub decreases-loop-i : goal.decreases-loop-i
decreases-loop-i l = l.n - l.i
