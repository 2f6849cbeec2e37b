-- The invariant: i characters lead on, and then as many as of what is left.
use mathlib.Core.Path.{◌≡◌}
use mathlib.Core.Bool.{false}
use Prim.Native.Nat.{◌+◌, ◌-◌, ◌≤◌}
use lib.ListN.{length, drop}
use Rattle.laws.specs.Walks.{lead_on}
use Rattle.numbers.specs.Number.{digits}
use Rattle.number_positions.specs.Positions.{number_walk}
use Rattle.number_positions.proofs.digits_long.Given as goal

abbrev pub invariant-loop-i : goal.invariant-loop-i
invariant-loop-i l =
    (l.i ≤ length l.text) × (lead_on number_walk (digits l.base false 0) l.text ≡ l.i + lead_on number_walk (digits l.base false 0) (drop l.i l.text))

abbrev pub decreases-loop-i : goal.decreases-loop-i
decreases-loop-i l = length l.text - l.i
