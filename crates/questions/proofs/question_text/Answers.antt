-- By whether it is a row.
use Rattle.questions.proofs.QuestionLaws.{bytes_row, bytes_other}
use borrow.Author.Rules.{rules}
use Rattle.questions.proofs.question_text.Goals as goal

pub returns-then-k-eq1 : goal.returns-then-k-eq1
returns-then-k-eq1 c = bytes_row _ _ _ c.unescape_row.ensures (search rules) c.if-k-eq1.true

pub returns : goal.returns
returns c = bytes_other _ _ _ c.unescape.ensures.out_after (search rules) c.if-k-eq1.false
