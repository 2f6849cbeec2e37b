-- The verdict and the state after.
use Rattle.questions.proofs.QuestionLaws.{judged_parts}
use Rattle.questions.specs.Questions.{step_judged}
use Rattle.questions.proofs.judge_step.Goals as goal

pub returns : goal.returns
unfolding step_judged
returns g c = judged_parts (cc) (cc)
