-- By whether the text can be read.
use mathlib.Core.Path.{sym, ap, ◌∙◌}
use Rattle.questions.proofs.QuestionLaws.{judged_some, judged_none}
use Rattle.escapes.proofs.EscapeLaws.{read_part}
use Rattle.escapes.specs.Escapes.{read_in}
use Rattle.questions.specs.Questions.{judged_text}
use Rattle.questions.proofs.judge_in.Goals as goal

pub returns-in-Some : goal.returns-in-Some
unfolding read_in
returns-in-Some g c = c.judge_text.ensures ∙ ap (judged_text _ _ _ _ _) c.part.ensures
    ∙ judged_some _ _ _ _ _ _ _ (read_part c.in-Some.n c.question_text.new.out (rw c.in-Some.is at c.question_text.ensures))

pub returns-in-None : goal.returns-in-None
unfolding read_in
returns-in-None g c = judged_none _ _ _ _ _ _ (sym (rw c.in-None.is at c.question_text.ensures))
