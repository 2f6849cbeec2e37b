-- `calibration::nearest::nearest` meets its contract: so far the nearest of the first n is found.
use mathlib.Core.Path.{◌≡◌}
use Prim.Native.Nat.{◌≤◌}
use lib.ListN.{length}
use Rattle.calibration.specs.Nearest.{nearest_of}
use Rattle.calibration.proofs.nearest.nearest.Given as goal

abbrev pub invariant-loop-n : goal.invariant-loop-n
invariant-loop-n l = (l.n ≤ length l.xs) × (l.best ≡ nearest_of l.side l.xs l.v l.n)
