-- `name_bytes::same_curve_name` meets its contract.
use Rattle.name_bytes.specs.Names.{same_curve_name}
use Rattle.name_bytes.proofs.same_curve_name.Goals as goal

pub returns : goal.returns
unfolding same_curve_name
returns c = c.same_kept.ensures
