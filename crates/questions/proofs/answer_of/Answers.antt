-- By the question.
use borrow.Author.Tests.{lt-ltb, le-ltb}
use Rattle.questions.specs.Questions.{answer_to}
use Rattle.questions.proofs.answer_of.Goals as goal

pub returns-then-k-lt12 : goal.returns-then-k-lt12
unfolding answer_to
returns-then-k-lt12 c = rw (lt-ltb _ 12 c.if-k-lt12.true) c.answer_to.ensures

pub returns : goal.returns
unfolding answer_to
returns c = rw (le-ltb _ 12 c.if-k-lt12.false) c.answer_by_index.ensures
