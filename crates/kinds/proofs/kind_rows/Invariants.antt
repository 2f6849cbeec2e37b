-- The invariant: the first i places are written.
use Rattle.laws.proofs.Values.{Writing}
use Rattle.kinds.specs.Kinds.{kinds_at}
use Rattle.kinds.proofs.kind_rows.Given as goal

abbrev pub invariant-loop-i : goal.invariant-loop-i
invariant-loop-i l = Writing (kinds_at l.marks l.codes1 l.found1 l.codes2 l.found2) l.n l.initial.kinds l.kinds l.i
