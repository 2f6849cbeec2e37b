-- `numbers::read_digits` meets its contract. The invariant: what is left, after the magnitude so far,
-- is answered as the whole is.
use mathlib.Core.Path.{◌≡◌}
use Prim.Native.Nat.{◌-◌, ◌≤◌}
use lib.ListN.{length, drop}
use Rattle.numbers.specs.Number.{digits}
use Rattle.numbers.proofs.Answers.{answered}
use Rattle.numbers.proofs.read_digits.Given as goal

abbrev pub invariant-loop-i : goal.invariant-loop-i
invariant-loop-i l =
    (l.i ≤ length l.text) × (answered (digits l.base l.negative l.magnitude) (drop l.i l.text) ≡ answered (digits l.base l.negative 0) l.text)

abbrev pub decreases-loop-i : goal.decreases-loop-i
decreases-loop-i l = length l.text - l.i
