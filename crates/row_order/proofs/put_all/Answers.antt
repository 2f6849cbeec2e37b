-- The three turns one after the other.
use Rattle.row_order.proofs.TellLaws.{order_length, order_put}
use Rattle.row_order.proofs.put_all.Goals as goal

pub returns : goal.returns
returns c = record {
  value = order_length c.args.halves.now c.args.bytes.now c.args.cells.now c.args.n c.args.order.now _ _ _ _ _ _
      c.put_turn-formed.ensures.value.0 c.put_turn-formed.ensures.order_after c.put_turn-keyed.ensures.value.0 c.put_turn-keyed.ensures.order_after
      c.put_naming.ensures;
  order_after = order_put c.args.halves.now c.args.bytes.now c.args.cells.now c.args.n c.args.order.now _ _ _ _ _ _
      c.put_turn-formed.ensures.value.0 c.put_turn-formed.ensures.order_after c.put_turn-keyed.ensures.value.0 c.put_turn-keyed.ensures.order_after
      c.put_naming.ensures;
}
