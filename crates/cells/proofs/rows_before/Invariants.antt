-- The invariant: the rows of the tables that are passed are counted.
use Prim.Native.Nat.{◌-◌, ◌*◌, ◌≤◌}
use mathlib.Core.Path.{◌≡◌}
use mathlib.Core.List.{map}
use Rattle.verdicts.specs.Places.{rows_before}
use Rattle.verdicts.specs.Answer.{most_rows}
use Rattle.cells.proofs.rows_before.Given as goal

abbrev pub invariant-loop-t : goal.invariant-loop-t
invariant-loop-t l = (l.t ≤ l.u) × (l.rows ≤ most_rows * l.t) × (l.rows ≡ rows_before (map (λ x. x.now) l.tables) l.t)

abbrev pub decreases-loop-t : goal.decreases-loop-t
decreases-loop-t l = l.u - l.t
