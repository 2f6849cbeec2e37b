-- No text and no cells follow.
use Rattle.answers.specs.Answers.{saying}
use Rattle.answers.proofs.answer.says.Goals as goal

pub returns : goal.returns
unfolding saying
returns c = c.compose.ensures
