-- The invariant: from here the word stands where it stands in the whole list.
use mathlib.Core.Path.{◌≡◌}
use Prim.Native.Nat.{◌+◌, ◌-◌, ◌≤◌}
use lib.ListN.{length, drop}
use Rattle.lines.specs.Columns.{columns_of}
use Rattle.scripts.specs.Words.{word_place}
use Rattle.scripts.proofs.verb.place_in.Given as goal

abbrev pub invariant-loop-k : goal.invariant-loop-k
invariant-loop-k l = (l.k ≤ length (columns_of l.list)) × (l.k + word_place l.word (drop l.k (columns_of l.list)) ≡ word_place l.word (columns_of l.list))

abbrev pub decreases-loop-k : goal.decreases-loop-k
decreases-loop-k l = length (columns_of l.list) - l.k
