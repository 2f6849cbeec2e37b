-- The bytes up to i are moved, and those from i on are as they were.
use Prim.Native.Nat.{◌-◌, ◌≤◌, min}
use mathlib.Core.Path.{◌≡◌}
use lib.ListN.{length}
use Rattle.archives.proofs.BlockLaws.{moved_so}
use Rattle.archives.proofs.move_rest.Given as goal

abbrev pub invariant-loop-i : goal.invariant-loop-i
invariant-loop-i l = (l.block ≡ moved_so l.initial.block l.from l.i) × (length l.block ≡ length l.initial.block) × (l.i ≤ l.count) ×
    (l.count ≡ min l.to (length l.initial.block) - l.from)

abbrev pub decreases-loop-i : goal.decreases-loop-i
decreases-loop-i l = l.count - l.i
