-- Of as many rows as there are places for.
use mathlib.Core.Path.{ap, ◌∙◌}
use Prim.Native.Nat.{ℕ}
use lib.ListN.{length}
use lib.Seq.{sets}
use Rattle.row_order.specs.RowOrder.{order_of}
use Rattle.row_order.proofs.order_rows.Goals as goal

pub returns : goal.returns
returns c = record { value = c.put_all.ensures.value ∙ ap (λ (k : ℕ). length (order_of c.args.halves.now c.args.bytes.now c.args.cells.now k)) c.least-rows.ensures.0; order_after = c.put_all.ensures.order_after ∙ ap (λ (k : ℕ). sets c.args.order.now 0 (order_of c.args.halves.now c.args.bytes.now c.args.cells.now k)) c.least-rows.ensures.0 }
