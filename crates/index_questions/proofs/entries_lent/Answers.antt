-- By whether it is said.
use borrow.Author.Tests.{eq-eqb, ne_eqb}
use Rattle.index_questions.specs.IndexReplies.{entries_lent}
use Rattle.index_questions.proofs.entries_lent.Goals as goal

pub returns-then-text-eq0 : goal.returns-then-text-eq0
unfolding entries_lent
returns-then-text-eq0 c = rw (eq-eqb _ 0 c.if-text-eq0.true)

pub returns : goal.returns
unfolding entries_lent
returns c = rw (ne_eqb _ 0 c.if-text-eq0.false) c.natural_to.ensures
