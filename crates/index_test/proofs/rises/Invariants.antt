-- Entry after entry: a packet, and after the last.
use mathlib.Core.List.{map}
use Prim.Native.Nat.{◌≤◌}
use lib.ListN.{length}
use Rattle.index_entries.specs.Loaded.{packets_in}
use Rattle.index_test.proofs.TestLaws.{Testing}
use Rattle.index_test.proofs.rises.Given as goal

abbrev pub invariant-loop-i : goal.invariant-loop-i
invariant-loop-i l = (l.i ≤ length l.index) × Testing (packets_in (map (λ x. x.now) l.tables) l.words l.links l.columns) l.index l.i l.last
