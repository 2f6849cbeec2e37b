-- The invariant: the areas passed are empty.
use mathlib.Core.Path.{◌≡◌}
use Prim.Native.Nat.{◌≤◌}
use lib.ListN.{length}
use Rattle.areas.specs.Memory.{first_cleared, area_count}
use Rattle.areas.proofs.clear_all.Given as goal

abbrev pub invariant-loop-t : goal.invariant-loop-t
invariant-loop-t l = (l.t ≤ area_count) × (length l.ends ≡ length l.initial.ends) × (l.ends ≡ first_cleared l.t l.initial.ends)
