-- The state stays.
use mathlib.Core.Path.{refl}
use Rattle.outcomes.specs.Refusals.{refused_by}
use Rattle.accepting.specs.Accepted.{state_after}
use Rattle.accepting.specs.Answer.{said_step}
use Rattle.accepting.proofs.step.refuse.Goals as goal

pub returns : goal.returns
unfolding said_step state_after refused_by
returns c = record { said = refl; after = refl }
