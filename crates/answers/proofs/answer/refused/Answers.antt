-- Words and two numbers.
use Rattle.answers.specs.Answers.{refusing}
use Rattle.answers.proofs.answer.refused.Goals as goal

pub returns : goal.returns
unfolding refusing
returns c = c.says.ensures
