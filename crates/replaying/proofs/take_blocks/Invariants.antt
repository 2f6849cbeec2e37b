-- The bytes so far lead to the state so far, and what is left over of them stands in the block.
use Prim.Native.Nat.{◌-◌}
use mathlib.Core.List.{map}
use Rattle.database.specs.Arrays.{database, answers}
use Rattle.replaying.proofs.ReplayLaws.{ReplayedSo}
use Rattle.replaying.proofs.take_blocks.Given as goal

abbrev pub invariant-loop : goal.invariant-loop
invariant-loop g l =
    ReplayedSo (answers (database (map (λ x. x.now) l.tables) l.words l.links l.columns)) l.name l.standing l.block

abbrev pub decreases-loop : goal.decreases-loop
decreases-loop g l =
    18446744073709551615 - l.counter
