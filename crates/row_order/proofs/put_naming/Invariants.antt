-- One row after the other, each with the rows on its way.
use Rattle.row_order.specs.RowOrder.{in_turn, first_cause}
use Rattle.row_order.proofs.TellLaws.{Telling}
use Rattle.row_order.proofs.put_naming.Given as goal

abbrev pub invariant-loop-i : goal.invariant-loop-i
invariant-loop-i l =
    Telling (first_cause l.halves l.bytes l.cells l.n) (in_turn l.cells 3) l.n l.initial.order l.from l.i l.told l.order l.at
