-- The invariant: the first i places are written.
use Rattle.laws.proofs.Values.{Writing}
use Rattle.met_names.specs.Names.{firm_at}
use Rattle.names.proofs.firm.firm_rows.Given as goal

abbrev pub invariant-loop-i : goal.invariant-loop-i
invariant-loop-i l = Writing (firm_at l.kinds l.base l.codes1 l.found1 l.codes2 l.found2 l.clean l.next) l.n l.initial.firm l.firm l.i
