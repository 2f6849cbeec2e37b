-- The invariant: the rows from i on are chained.
use Prim.Native.Nat.{min}
use Rattle.passes.specs.Groups.{Chained}
use Rattle.passes.proofs.groups.chain_rows.Given as goal

abbrev pub invariant-loop-i : goal.invariant-loop-i
invariant-loop-i l = Chained l.marks l.ids l.initial.firsts l.initial.nexts l.firsts l.nexts l.i (min l.n 65535)

abbrev pub decreases-loop-i : goal.decreases-loop-i
decreases-loop-i l = l.i
