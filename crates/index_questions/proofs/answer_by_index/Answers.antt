-- By the question.
use borrow.Author.Tests.{eq-eqb, ne_eqb}
use Rattle.index_questions.specs.IndexReplies.{index_reply_to}
use Rattle.index_questions.proofs.answer_by_index.Goals as goal

pub returns-then-k-eq12 : goal.returns-then-k-eq12
unfolding index_reply_to
returns-then-k-eq12 c = rw (eq-eqb _ 12 c.if-k-eq12.true) c.ask_search.ensures

pub returns : goal.returns
unfolding index_reply_to
returns c = rw (ne_eqb _ 12 c.if-k-eq12.false) c.ask_index.ensures
