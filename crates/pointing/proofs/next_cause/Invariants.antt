-- From a place on, one row after the other.
use mathlib.Core.Path.{◌≡◌}
use Prim.Native.Nat.{◌-◌}
use Rattle.laws.specs.Prefix.{all_from}
use Rattle.pointing.specs.Pointing.{points_to}
use Rattle.pointing.proofs.next_cause.Given as goal

abbrev pub invariant-loop-j : goal.invariant-loop-j
invariant-loop-j l = all_from (points_to l.halves l.bytes l.cells l.i) l.j (l.n - l.j) ≡ all_from (points_to l.halves l.bytes l.cells l.i) l.from (l.n - l.from)
