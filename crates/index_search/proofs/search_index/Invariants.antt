-- The entries that are left, step by step.
use mathlib.Core.List.{map}
use Prim.Native.Nat.{◌+◌, ◌≤◌}
use lib.ListN.{length}
use Rattle.packet_index.specs.Index.{numbers_at}
use Rattle.index_entries.specs.Loaded.{packets_in}
use Rattle.index_search.proofs.LoopLaws.{Going}
use Rattle.index_search.proofs.search_index.Given as goal

abbrev pub invariant-loop-left : goal.invariant-loop-left
invariant-loop-left l =
    (l.before + l.left ≤ length l.index) × (l.compared + l.left ≤ length l.index)
    × Going l.numbers (map (numbers_at (packets_in (map (λ x. x.now) l.tables) l.words l.links l.columns)) l.index) l.before l.left l.compared

abbrev pub decreases-loop-left : goal.decreases-loop-left
decreases-loop-left l = l.left
