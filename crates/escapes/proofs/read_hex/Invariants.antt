-- The invariant: the bytes that are written and those still to be read are the bytes of the digits.
use mathlib.Core.Path.{◌≡◌}
use Prim.Native.Nat.{◌-◌, ◌≤◌}
use lib.ListN.{length, take, drop}
use Rattle.escapes.specs.Escapes.{hex_bytes}
use Rattle.escapes.proofs.EscapeLaws.{joined}
use Rattle.escapes.proofs.read_hex.Given as goal

abbrev pub invariant-loop-i : goal.invariant-loop-i
invariant-loop-i l = (l.i ≤ length l.raw) × (l.n ≤ l.i) × (length l.out ≡ length l.initial.out) × (length l.raw ≤ length l.initial.out)
    × (joined (take l.n l.out) (hex_bytes (drop l.i l.raw)) ≡ hex_bytes l.raw)

abbrev pub decreases-loop-i : goal.decreases-loop-i
decreases-loop-i l = length l.raw - l.i
