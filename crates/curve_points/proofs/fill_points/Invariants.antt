-- The invariant: with the rows left, the arrays are as they are with all of them.
use mathlib.Core.List.{map}
use Prim.Native.Nat.{◌≤◌}
use lib.ListN.{length}
use Rattle.database.specs.Arrays.{row_at}
use Rattle.curve_points.specs.Curves.{xvals_of, yvals_of}
use Rattle.laws.proofs.Fill.{Filling}
use Rattle.curve_points.proofs.fill_points.Given as goal

abbrev pub invariant-loop-i : goal.invariant-loop-i
invariant-loop-i l =
    (l.i ≤ length l.places)
    × Filling (λ p. xvals_of (row_at (map (λ x. x.now) l.tables) l.columns p)) l.places l.initial.xs l.xs l.i
    × Filling (λ p. yvals_of (row_at (map (λ x. x.now) l.tables) l.columns p)) l.places l.initial.ys l.ys l.i
