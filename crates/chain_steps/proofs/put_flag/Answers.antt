-- By the test; past the end nothing is written.
use mathlib.Core.Path.{sym}
use lib.Seq.{set_out}
use Rattle.chain_steps.proofs.put_flag.Goals as goal

pub returns-then-test : goal.returns-then-test
returns-then-test c = rw c.if-test.true

pub returns-else-test : goal.returns-else-test
returns-else-test c = rw c.if-test.false

pub returns-else-i-marks : goal.returns-else-i-marks
returns-else-i-marks c = sym (set_out _ _ _ c.if-i-marks.false)
