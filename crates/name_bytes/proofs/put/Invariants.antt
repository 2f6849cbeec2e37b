-- `name_bytes::put` meets its contract. The invariant: the bytes passed are written,
-- and the further ones are as before.
use mathlib.Core.Path.{◌≡◌}
use mathlib.Core.List.{◌++◌}
use Prim.Native.Nat.{◌≤◌}
use lib.ListN.{length, take, drop}
use Rattle.name_bytes.proofs.put.Given as goal

abbrev pub invariant-loop-i : goal.invariant-loop-i
invariant-loop-i l = (l.i ≤ length l.text) × (length l.to ≡ length l.initial.to) × (l.to ≡ take l.i l.text ++ drop l.i l.initial.to)
