-- As it stands.
use mathlib.Core.Path.{refl}
use Rattle.tallies.specs.Totals.{plus, tally_after, no_tally}
use Rattle.vectors.specs.Files.{unread_file}
use Rattle.vectors.proofs.unread_file.Goals as goal

pub returns : goal.returns
unfolding unread_file tally_after no_tally plus
returns c = refl
