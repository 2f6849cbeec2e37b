-- The invariant: the first row is valid where the row is that the chain goes on from.
use mathlib.Core.Path.{◌≡◌}
use mathlib.Core.List.{map}
use Prim.Native.Nat.{◌*◌}
use Rattle.database.specs.Arrays.{database, answers}
use Rattle.readings.specs.Readings.{valid_within, validity}
use Rattle.located_readings.proofs.validity.Given as goal

abbrev pub invariant-loop-blocks : goal.invariant-loop-blocks
invariant-loop-blocks l =
    valid_within (answers (database (map (λ x. x.now) l.tables) l.words l.links l.columns)) l.p l.spid.0 (16 * l.blocks) l.at
    ≡ validity (answers (database (map (λ x. x.now) l.tables) l.words l.links l.columns)) l.p l.spid.0 l.initial.at

abbrev pub decreases-loop-blocks : goal.decreases-loop-blocks
decreases-loop-blocks l = l.blocks
