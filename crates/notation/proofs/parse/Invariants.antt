-- `notation::parse` meets its contract. The invariant: what is left, after the stage and the numbers so far,
-- gives what the whole text gives.
use Prim.Native.Nat.{◌≤◌}
use lib.ListN.{length}
use Rattle.notation.proofs.Walks.{Walk}
use Rattle.notation.proofs.parse.Given as goal

abbrev pub invariant-loop-i : goal.invariant-loop-i
invariant-loop-i l = Walk l.text l.s l.n l.i × (length l.text ≤ 14)
