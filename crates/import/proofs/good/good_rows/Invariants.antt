-- The invariant: the zeros counted and those left are all.
use Prim.Native.Nat.{◌+◌, ◌-◌, ◌≤◌}
use mathlib.Core.Path.{◌≡◌}
use lib.ListN.{length, drop}
use Rattle.verdicts.specs.Answer.{zeros}
use Rattle.import.proofs.good.good_rows.Given as goal

abbrev pub invariant-loop-i : goal.invariant-loop-i
invariant-loop-i l = (l.i ≤ length l.cells) × (l.good ≤ l.i) × (l.good + zeros (drop l.i l.cells) ≡ zeros l.cells)

abbrev pub decreases-loop-i : goal.decreases-loop-i
decreases-loop-i l = length l.cells - l.i
