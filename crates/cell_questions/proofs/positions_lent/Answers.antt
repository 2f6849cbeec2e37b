-- By how many numbers the text has.
use borrow.Author.Tests.{eq-eqb, ne_eqb}
use Rattle.cell_questions.specs.CellReplies.{positions_lent}
use Rattle.cell_questions.proofs.positions_lent.Goals as goal

pub returns-then-count-eq1 : goal.returns-then-count-eq1
unfolding positions_lent
returns-then-count-eq1 c = rw (← c.column_count-count.ensures, eq-eqb _ 1 c.if-count-eq1.true) c.cells_lent.ensures

pub returns-then-count-eq2 : goal.returns-then-count-eq2
unfolding positions_lent
returns-then-count-eq2 c = rw (← c.column_count-count.ensures, ne_eqb _ 1 c.if-count-eq1.false, eq-eqb _ 2 c.if-count-eq2.true) c.natural_at.ensures

pub returns : goal.returns
unfolding positions_lent
returns c = rw (← c.column_count-count.ensures, ne_eqb _ 1 c.if-count-eq1.false, ne_eqb _ 2 c.if-count-eq2.false)
