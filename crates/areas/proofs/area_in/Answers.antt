-- By whether there is such an area.
use mathlib.Core.Path.{◌∙◌}
use native.Mathlib.Omega.{arith}
use Rattle.areas.proofs.MemoryLaws.{area_in, area_out}
use Rattle.areas.proofs.area_in.Goals as goal

pub returns-then-t-ge-AREAS : goal.returns-then-t-ge-AREAS
returns-then-t-ge-AREAS c = area_out _ _ (omega arith)

pub returns : goal.returns
returns c = c.part.ensures ∙ area_in _ _ _ (omega arith) c.number_at.ensures
