-- The invariant: what is left, put from here on, gives what the whole gives.
use mathlib.Core.Path.{◌≡◌}
use Prim.Native.Nat.{◌+◌, ◌≤◌}
use lib.ListN.{length, drop}
use lib.Seq.{sets}
use Rattle.areas.proofs.put.Given as goal

abbrev pub invariant-loop-i : goal.invariant-loop-i
invariant-loop-i l = (l.i ≤ length l.bytes) × (length l.space ≡ length l.initial.space)
    × (sets l.space (l.at + l.i) (drop l.i l.bytes) ≡ sets l.initial.space l.at l.bytes)
