-- By the question.
use borrow.Author.Tests.{eq-eqb, ne_eqb}
use Rattle.questions.specs.Questions.{question_verdict}
use Rattle.questions.proofs.judge_question.Goals as goal

pub returns-then-k-eq0 : goal.returns-then-k-eq0
unfolding question_verdict
returns-then-k-eq0 g c = rw (eq-eqb _ 0 c.if-k-eq0.true) c.judge_import.ensures

pub returns-then-k-eq1 : goal.returns-then-k-eq1
unfolding question_verdict
returns-then-k-eq1 g c = rw (ne_eqb _ 0 c.if-k-eq0.false, eq-eqb _ 1 c.if-k-eq1.true) c.judge_row.ensures

pub returns : goal.returns
unfolding question_verdict
returns g c = rw (ne_eqb _ 0 c.if-k-eq0.false, ne_eqb _ 1 c.if-k-eq1.false) (cc)
