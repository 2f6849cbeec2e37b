-- The invariant: with the validity of the row that comes next,
-- the rows stored give that of the row that the block starts with.
use mathlib.Core.List.{map}
use Prim.Native.Nat.{◌-◌}
use Rattle.database.specs.Arrays.{database, answers}
use Rattle.located_readings.proofs.FollowLaws.{Following}
use Rattle.located_readings.proofs.follow.follow.Given as goal

abbrev pub invariant-loop-count : goal.invariant-loop-count
invariant-loop-count l =
    Following (answers (database (map (λ x. x.now) l.tables) l.words l.links l.columns)) l.p l.spid.0 l.initial.at l.values l.valpars l.at l.count

abbrev pub decreases-loop-count : goal.decreases-loop-count
decreases-loop-count l = 16 - l.count
