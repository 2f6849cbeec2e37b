-- By the category and CURTX of the row.
use mir.Facts.{to_z-of_z}
use Rattle.engineering.proofs.EngineeringLaws.{by_row}
use Rattle.engineering.proofs.engineer.engineer_value.Goals as goal

pub returns : goal.returns
returns c = by_row _ _ _ (to_z-of_z c.ranges.raw) c.by_category.ensures
