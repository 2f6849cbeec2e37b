-- A holder that counts.
use Rattle.row_keys.proofs.parts.counter.Goals as goal

pub returns : goal.returns
returns c = rw c.holder-row.ensures
