-- What is still to be offered leads to where all of it leads.
use Prim.Native.Nat.{◌-◌}
use mathlib.Core.List.{map}
use lib.ListN.{length}
use Rattle.database.specs.Arrays.{database, answers}
use Rattle.playing.proofs.PlayLaws.{PlaysSo}
use Rattle.playing.proofs.play.Given as goal

abbrev pub invariant-loop-end : goal.invariant-loop-end
invariant-loop-end g l = PlaysSo
    (answers (database (map (λ x. x.now) l.tables) l.words l.links l.columns)) l.name l.initial.replay l.bytes l.replay l.at

abbrev pub decreases-loop-end : goal.decreases-loop-end
decreases-loop-end g l = length l.bytes - l.at
