-- The element, or no row past the end.
use Rattle.laws.proofs.Values.{past_end, any_default}
use Rattle.chain_steps.proofs.row_at.Goals as goal

pub returns-then-i-rows : goal.returns-then-i-rows
returns-then-i-rows c = any_default c.args.rows.now _ 0 65535 c.if-i-rows.true

pub returns-else-i-rows : goal.returns-else-i-rows
returns-else-i-rows c = past_end c.args.rows.now _ 65535 c.if-i-rows.false
