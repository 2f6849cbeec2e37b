-- The invariant: with the rows left, the array is as it is with all of them.
use mathlib.Core.List.{map}
use Prim.Native.Nat.{◌≤◌}
use lib.ListN.{length}
use Rattle.database.specs.Arrays.{row_at}
use Rattle.texts.specs.Texts.{from_of}
use Rattle.laws.proofs.Fill.{Filling}
use Rattle.texts.proofs.fill_froms.Given as goal

abbrev pub invariant-loop-i : goal.invariant-loop-i
invariant-loop-i l = (l.i ≤ length l.places) × Filling (λ p. from_of (row_at (map (λ x. x.now) l.tables) l.columns p)) l.places l.initial.froms l.froms l.i
