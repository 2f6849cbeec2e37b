-- Part by part.
use Rattle.tallies.specs.Totals.{together}
use Rattle.tallies.proofs.TotalLaws.{tally_parts}
use Rattle.tallies.proofs.add_up.Goals as goal

pub returns : goal.returns
unfolding together
returns c = tally_parts c.sums.ensures c.plus.ensures c.plus-2.ensures
