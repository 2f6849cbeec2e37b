use mathlib.Core.Path.{refl}
use native.Mathlib.Omega.{arith}
use Rattle.lines.proofs.LineLaws.{length_here, length_more, length_none}
use Rattle.lines.proofs.walk.line_end.Goals as goal

pub loop-i-init : goal.loop-i-init
loop-i-init c = refl

pub returns-then-table-i-eq-LINE_FEED : goal.returns-then-table-i-eq-LINE_FEED
returns-then-table-i-eq-LINE_FEED c = omega (arith, length_here c.args.table.now c.loop-i.i (omega arith) c.if-table-i-eq-LINE_FEED.true)

pub loop-i-preserved : goal.loop-i-preserved
loop-i-preserved c = omega (arith, length_more c.args.table.now c.loop-i.i (omega arith) c.if-table-i-eq-LINE_FEED.false)

pub returns : goal.returns
returns c = omega (arith, length_none c.args.table.now c.loop-i.i (omega arith))
