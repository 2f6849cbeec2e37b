-- The invariant: the cells and positions left lead from here to where all lead.
use mathlib.Core.Path.{◌≡◌}
use Prim.Native.Nat.{◌-◌, ◌≤◌}
use lib.ListN.{take, drop}
use Rattle.spoken.specs.Spoken.{matched_all, cells_text}
use Rattle.spoken.proofs.cells.match_cells.Given as goal

abbrev pub invariant-loop-i : goal.invariant-loop-i
invariant-loop-i l = (l.i ≤ l.n)
    × (matched_all l.line l.at (cells_text (drop l.i (take l.n l.cells)) (drop l.i l.positions)) ≡ matched_all l.line l.from (cells_text (take l.n l.cells) l.positions))

abbrev pub decreases-loop-i : goal.decreases-loop-i
decreases-loop-i l = l.n - l.i
