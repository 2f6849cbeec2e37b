-- The invariant: by the checks left, and by whether a soft one was violated, the severity is that by all.
use Prim.Native.Nat.{◌≤◌}
use lib.ListN.{length}
use Rattle.severity.proofs.SeverityInLaws.{Found}
use Rattle.severity.proofs.severity_in.Given as goal

abbrev pub invariant-loop-i : goal.invariant-loop-i
invariant-loop-i l = (l.i ≤ length l.levels) × Found l.lows l.highs l.levels l.value l.soft l.i
