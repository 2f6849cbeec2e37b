-- `curves::line::is_coordinate` meets its contract.
use mathlib.Core.Path.{◌∙◌}
use mir.Syntax.{w64}
use mir.ValLaws.{to_z-of_z}
use Rattle.curves.specs.Line.{is_coordinate}
use Rattle.curves.proofs.line.is_coordinate.Goals as goal

pub returns : goal.returns
unfolding is_coordinate
returns c = c.lies_within.ensures ∙ rw (to_z-of_z w64 c.args.z c.ranges.z)
