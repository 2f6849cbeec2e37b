-- One row after the other: what is left gives what the whole gives.
use Prim.Native.Nat.{◌-◌}
use Rattle.row_order.specs.RowOrder.{in_turn}
use Rattle.row_order.proofs.TurnLaws.{Turning}
use Rattle.row_order.proofs.put_turn.Given as goal

abbrev pub invariant-loop-i : goal.invariant-loop-i
invariant-loop-i l = Turning (in_turn l.cells l.turn) l.n l.from l.initial.order l.order l.at l.i

abbrev pub decreases-loop-i : goal.decreases-loop-i
decreases-loop-i l = l.n - l.i
