-- By the numbers at the place.
use Rattle.tallies.proofs.sum.Goals as goal

pub returns : goal.returns
returns c = simp (c.plus.ensures, c.number_at-2.ensures, c.number_at.ensures)
