-- `fields::bits::gather` meets its contract. The loop's invariant: `acc` is the number of the bits passed, and byte and
-- bit are where the next one lies.
use mathlib.Core.Path.{◌≡◌}
use Prim.Native.Nat.{◌+◌, ◌-◌, ◌*◌, ◌<◌, ◌≤◌}
use Rattle.fields.specs.Bits.{number_at}
use Rattle.fields.proofs.bits.gather.Given as goal

abbrev pub invariant-loop-left : goal.invariant-loop-left
invariant-loop-left l =
    (l.left ≤ l.width)
    × (l.bit < 8)
    × (l.byte * 8 + l.bit ≡ l.first * 8 + l.lead + (l.width - l.left))
    × (l.acc ≡ number_at l.p (l.first * 8 + l.lead) (l.width - l.left))

abbrev pub decreases-loop-left : goal.decreases-loop-left
decreases-loop-left l = l.left
