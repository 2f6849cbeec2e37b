use Rattle.std.proofs.Common.{arith}
use Rattle.directories.proofs.LoadLaws.{so_none, so_more, so_all}
use Rattle.directories.proofs.load.Goals as goal

pub loop-t-init : goal.loop-t-init
loop-t-init g c = (omega arith, omega arith, so_none _)

pub loop-t-preserved : goal.loop-t-preserved
loop-t-preserved g c = (omega arith, omega arith, so_more c.loop-t.invariant.2 c.loop-t-test.true c.loop-t.invariant.0 c.load_table-read.ensures c.both-whole.ensures)

pub returns : goal.returns
returns g c = so_all c.loop-t.invariant.2 (omega arith)
