-- By whether there is such an area.
use mathlib.Core.Path.{◌∙◌}
use native.Mathlib.Omega.{arith}
use Rattle.areas.proofs.MemoryLaws.{clear_in, clear_out}
use Rattle.areas.proofs.clear.Goals as goal

pub returns-then-t-lt-AREAS : goal.returns-then-t-lt-AREAS
returns-then-t-lt-AREAS c = c.keep_at.ensures ∙ clear_in _ _ (omega arith)

pub returns-else-t-lt-AREAS : goal.returns-else-t-lt-AREAS
returns-else-t-lt-AREAS c = clear_out _ _ (omega arith)
