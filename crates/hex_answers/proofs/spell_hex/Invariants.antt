-- The invariant: with the digits that are left, the number's digits are there.
use mathlib.Core.Path.{◌≡◌}
use mathlib.Core.List.{◌++◌}
use Prim.Native.Nat.{◌≤◌}
use lib.ListN.{length, drop}
use Rattle.hex_answers.specs.Hexadecimal.{hexadecimal}
use Rattle.hex_answers.proofs.spell_hex.Given as goal

abbrev pub invariant-loop-i : goal.invariant-loop-i
invariant-loop-i l =
    (l.i ≤ length l.initial.out) × (length l.out ≡ length l.initial.out) × (hexadecimal l.i l.rest ++ drop l.i l.out ≡ hexadecimal (length l.initial.out) l.n)

abbrev pub decreases-loop-i : goal.decreases-loop-i
decreases-loop-i l = l.i
