-- What is made.
use mathlib.Core.Path.{refl}
use Rattle.telling.specs.Answers.{told_plainly}
use Rattle.telling.proofs.tell.tell.Goals as goal

pub returns : goal.returns
unfolding told_plainly
returns c = refl
