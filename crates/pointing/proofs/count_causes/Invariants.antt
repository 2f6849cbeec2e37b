-- What is counted so far and what is left are all.
use mathlib.Core.Path.{◌≡◌}
use Prim.Native.Nat.{◌+◌, ◌-◌, ◌≤◌}
use lib.ListN.{length}
use Rattle.laws.specs.Prefix.{all_from}
use Rattle.pointing.specs.Pointing.{points_to}
use Rattle.pointing.proofs.count_causes.Given as goal

abbrev pub invariant-loop-j : goal.invariant-loop-j
invariant-loop-j l =
    (l.count ≤ l.j) × (l.count + length (all_from (points_to l.halves l.bytes l.cells l.i) l.j (l.n - l.j)) ≡ length (all_from (points_to l.halves l.bytes l.cells l.i) 0 l.n))

abbrev pub decreases-loop-j : goal.decreases-loop-j
decreases-loop-j l = l.n - l.j
