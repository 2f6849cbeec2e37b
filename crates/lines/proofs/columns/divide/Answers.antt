-- The ends that the walk keeps.
use mathlib.Core.Path.{◌∙◌}
use Rattle.lines.proofs.ColumnLaws.{divided_stored}
use Rattle.lines.proofs.columns.divide.Goals as goal

pub returns : goal.returns
returns c = let e = c.scan.ensures.ends_after in e ∙ divided_stored _
