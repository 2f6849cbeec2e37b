-- One append.
use mathlib.Core.Path.{ap, ◌∙◌}
use Rattle.areas.specs.Memory.{added}
use Rattle.settings.proofs.add_run.Goals as goal

pub returns : goal.returns
returns c = c.append.ensures ∙ ap (added _ _) c.part.ensures
