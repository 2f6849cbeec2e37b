-- Where it is asked about.
use Rattle.named_rows.proofs.holds_asked.Goals as goal

pub returns-then-asked : goal.returns-then-asked
returns-then-asked c = rw c.if-asked.true c.has_key.ensures

pub returns : goal.returns
returns c = rw c.if-asked.false
