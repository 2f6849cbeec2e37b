-- The invariant: with the places left, the checks stored are those of all places.
use mathlib.Core.List.{map}
use Prim.Native.Nat.{◌-◌}
use lib.ListN.{length}
use Rattle.database.specs.Arrays.{database, answers}
use Rattle.applying.specs.Checks.{applies}
use Rattle.checking.proofs.CheckLaws.{Filling}
use Rattle.checking.proofs.checks.fill_checks.Given as goal

abbrev pub invariant-loop-i : goal.invariant-loop-i
invariant-loop-i l =
    Filling (map (λ x. x.now) l.tables) l.columns (applies (answers (database (map (λ x. x.now) l.tables) l.words l.links l.columns)) l.p l.spid.0) l.places l.lows l.highs l.levels l.n l.i

abbrev pub decreases-loop-i : goal.decreases-loop-i
decreases-loop-i l =
    length l.places - l.i
