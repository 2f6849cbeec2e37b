-- The invariant: the elements passed are 0.
use lib.ListN.{length}
use Rattle.arrays.proofs.ClearLaws.{Cleared}
use Rattle.arrays.proofs.clear_halves.Given as goal

abbrev pub invariant-loop-i : goal.invariant-loop-i
invariant-loop-i l = Cleared (length l.initial.halves) l.i l.halves
