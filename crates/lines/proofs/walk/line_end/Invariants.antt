-- `lines::walk::line_end` meets its contract. The invariant: from here the line ends where it ends from its start.
use mathlib.Core.Path.{◌≡◌}
use Prim.Native.Nat.{◌+◌, ◌-◌}
use lib.ListN.{length, drop}
use Rattle.lines.specs.Lines.{line_length}
use Rattle.lines.proofs.walk.line_end.Given as goal

abbrev pub invariant-loop-i : goal.invariant-loop-i
invariant-loop-i l = l.i + line_length (drop l.i l.table) ≡ l.from + line_length (drop l.from l.table)

abbrev pub decreases-loop-i : goal.decreases-loop-i
decreases-loop-i l = length l.table - l.i
