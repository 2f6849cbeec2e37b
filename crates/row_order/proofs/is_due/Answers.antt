-- By the turn and the mark.
use Rattle.row_order.proofs.TurnLaws.{due_turn, due_not}
use Rattle.row_order.proofs.is_due.Goals as goal

pub returns-then-turn_of-eq-NAMING : goal.returns-then-turn_of-eq-NAMING
returns-then-turn_of-eq-NAMING c = due_turn c.args.cells.now c.args.told.now c.args.i _ c.half_at.ensures _
    c.turn_of.ensures c.if-turn_of-eq-NAMING.true _ c.byte_at.ensures

pub returns : goal.returns
returns c = due_not c.args.cells.now c.args.told.now c.args.i _ c.half_at.ensures _ c.turn_of.ensures c.if-turn_of-eq-NAMING.false
