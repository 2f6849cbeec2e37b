-- One row after the other: what is left gives what the whole gives.
use Prim.Native.Nat.{◌-◌}
use Rattle.pointing.specs.Pointing.{points_to}
use Rattle.explaining.proofs.CauseLaws.{Putting}
use Rattle.explaining.proofs.put_causes.Given as goal

abbrev pub invariant-loop-j : goal.invariant-loop-j
invariant-loop-j l = Putting (points_to l.halves l.bytes l.cells l.i) l.n l.initial.places l.places l.count l.j

abbrev pub decreases-loop-j : goal.decreases-loop-j
decreases-loop-j l = l.n - l.j
