-- What can't be read says nothing.
use mathlib.Core.Path.{refl}
use Rattle.answers.specs.Answers.{unreadable}
use Rattle.answers.proofs.answer.unread.Goals as goal

pub returns : goal.returns
unfolding unreadable
returns c = refl
