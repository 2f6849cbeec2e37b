-- The result's arithmetic, and what `write` leaves.
use mathlib.Core.Path.{refl}
use Rattle.telling.specs.Answers.{code}
use Rattle.telling.proofs.deliver.deliver.Goals as goal

pub returns : goal.returns
unfolding code
returns c = record { value = refl; answer_after = c.write.ensures }
