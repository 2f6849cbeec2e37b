-- By whether it can be read, and is the answer.
use Rattle.std.proofs.Common.{sym, ◌∙◌}
use Rattle.comparing.proofs.AnswerLaws.{verdict_unread, verdict_same, verdict_differs}
use Rattle.comparing.proofs.compare.compare.Goals as goal

pub returns-then-not-answer : goal.returns-then-not-answer
returns-then-not-answer g c = verdict_unread _ _ _ _ _ c.if-not-answer.true

pub returns-then-agrees : goal.returns-then-agrees
returns-then-agrees g c = verdict_same _ _ _ _ _ c.if-not-answer.false (sym c.agrees.ensures ∙ c.if-agrees.true)

pub returns : goal.returns
returns g c = verdict_differs _ _ _ _ _ c.if-not-answer.false (sym c.agrees.ensures ∙ c.if-agrees.false)
