-- A limit step changes the state.
use mathlib.Core.Path.{refl}
use Rattle.questions.proofs.QuestionLaws.{judged_parts}
use borrow.Author.Tests.{eq-eqb, ne_eqb}
use Rattle.questions.specs.Questions.{judged_text}
use Rattle.questions.proofs.judge_text.Goals as goal

pub returns-then-k-eq5 : goal.returns-then-k-eq5
unfolding judged_text
returns-then-k-eq5 g c = rw (eq-eqb _ 5 c.if-k-eq5.true) c.judge_step.ensures

pub returns : goal.returns
unfolding judged_text
returns g c = rw (ne_eqb _ 5 c.if-k-eq5.false) (judged_parts c.judge_question.ensures refl)
