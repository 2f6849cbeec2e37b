-- `name_bytes::same_bytes` meets its contract. The invariant: what is left is the same where the whole is.
use mathlib.Core.Path.{◌≡◌}
use Prim.Native.Nat.{◌≤◌}
use lib.ListN.{length, drop}
use Rattle.name_bytes.specs.Names.{same_bytes}
use Rattle.name_bytes.proofs.same_bytes.Given as goal

abbrev pub invariant-loop-i : goal.invariant-loop-i
invariant-loop-i l = (length l.a ≡ length l.b) × (l.i ≤ length l.a) × (same_bytes (drop l.i l.a) (drop l.i l.b) ≡ same_bytes l.a l.b)
