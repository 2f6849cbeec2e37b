-- The invariant: i characters lead on, and then as many as of what is left from the stage so far.
use mathlib.Core.Path.{◌≡◌}
use Prim.Native.Nat.{◌+◌, ◌-◌, ◌≤◌}
use lib.ListN.{length, drop}
use Rattle.laws.specs.Walks.{lead_on}
use Rattle.notation.specs.Positions.{coefficient_walk}
use Rattle.notation.specs.declared.Stage.TheVariants.{Start}
use Rattle.notation.proofs.wrong.wrong_in_coefficient.Given as goal

abbrev pub invariant-loop-i : goal.invariant-loop-i
invariant-loop-i l = (l.i ≤ length l.text) × (lead_on coefficient_walk Start l.text ≡ l.i + lead_on coefficient_walk l.s (drop l.i l.text))

abbrev pub decreases-loop-i : goal.decreases-loop-i
decreases-loop-i l = length l.text - l.i
