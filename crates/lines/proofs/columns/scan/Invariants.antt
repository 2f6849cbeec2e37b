-- With what is left, what the walk has met is the whole line (`Walk`).
use Prim.Native.Nat.{◌-◌}
use lib.ListN.{length}
use Rattle.lines.proofs.ScanLaws.{Walk}
use Rattle.lines.proofs.columns.scan.Given as goal

abbrev pub invariant-loop-i : goal.invariant-loop-i
invariant-loop-i l = Walk l.feeds l.text l.from l.initial.ends l.ends l.count l.i l.foreign

abbrev pub decreases-loop-i : goal.decreases-loop-i
decreases-loop-i l = length l.text - l.i
