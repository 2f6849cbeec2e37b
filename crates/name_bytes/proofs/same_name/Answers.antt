-- `name_bytes::same_name` meets its contract.
use Rattle.name_bytes.specs.Names.{same_name}
use Rattle.name_bytes.proofs.same_name.Goals as goal

pub returns : goal.returns
unfolding same_name
returns c = c.same_kept.ensures
