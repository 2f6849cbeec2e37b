-- A holder that names its group.
use Rattle.row_keys.proofs.parts.member.Goals as goal

pub returns : goal.returns
returns c = rw c.holder-row.ensures
