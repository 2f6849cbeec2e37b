-- The invariant: the first i places are written.
use Rattle.laws.proofs.Values.{Writing}
use Rattle.met_names.specs.Names.{final_at}
use Rattle.names.proofs.finals.final_rows.Given as goal

abbrev pub invariant-loop-i : goal.invariant-loop-i
invariant-loop-i l = Writing (final_at l.kinds l.base l.codes1 l.found1 l.codes2 l.found2 l.good) l.n l.initial.cells l.cells l.i
