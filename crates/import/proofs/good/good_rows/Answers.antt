use native.Mathlib.Omega.{arith}
use Rattle.import.proofs.ZeroLaws.{zeros_none, zeros_good, zeros_bad}
use Rattle.import.proofs.good.good_rows.Goals.{then-cells-i-eq0, else-cells-i-eq0}
use Rattle.import.proofs.good.good_rows.Goals as goal

pub loop-i-init : goal.loop-i-init
loop-i-init c = (omega arith, omega arith, omega arith)

pub loop-i-preserved : goal.loop-i-preserved
loop-i-preserved c = elim c.if-cells-i-eq0.branch [
  | then-cells-i-eq0 w ↦ (omega arith, omega arith, omega (arith, zeros_good c.args.cells.now c.loop-i.i c.loop-i-test.true w.if-cells-i-eq0.true))
  | else-cells-i-eq0 w ↦ (omega arith, omega arith, omega (arith, zeros_bad c.args.cells.now c.loop-i.i c.loop-i-test.true w.if-cells-i-eq0.false))
]

pub returns : goal.returns
returns c = omega (arith, zeros_none c.args.cells.now c.loop-i.i c.loop-i-test.false)
