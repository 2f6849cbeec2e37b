use native.Mathlib.Omega.{arith}
use Rattle.row_order.proofs.TurnLaws.{turning_none, turning_here, turning_more, turning_ends, turning_left, in_turn_lem, not_in_turn}
use Rattle.row_order.proofs.put_turn.Goals as goal

pub loop-i-init : goal.loop-i-init
loop-i-init c = turning_none _ _ _ _

pub put_row-at-requires : goal.put_row-at-requires
put_row-at-requires c = omega (arith, c.loop-i.invariant.most, c.loop-i-test.true)

pub loop-i-preserved-then-turn_of-turn : goal.loop-i-preserved-then-turn_of-turn
loop-i-preserved-then-turn_of-turn c = turning_here _ _ _ _ _ _ _ c.loop-i.invariant c.loop-i-test.true
    (in_turn_lem c.args.cells.now c.loop-i.i _ _ c.half_at.ensures _
    c.turn_of.ensures c.if-turn_of-turn.true)
    _ c.put_row-at.ensures.1 _ c.put_row-at.ensures.0

pub loop-i-preserved : goal.loop-i-preserved
loop-i-preserved c = turning_more _ _ _ _ _ _ _ c.loop-i.invariant c.loop-i-test.true
    (not_in_turn c.args.cells.now c.loop-i.i _ _ c.half_at.ensures _
    c.turn_of.ensures c.if-turn_of-turn.false)

pub returns : goal.returns
returns c = record { value = (turning_ends _ _ _ _ _ _ _ c.loop-i.invariant c.loop-i-test.false, omega (arith, c.loop-i.invariant.most, c.loop-i.invariant.within)); order_after = turning_left _ _ _ _ _ _ _ c.loop-i.invariant c.loop-i-test.false }
