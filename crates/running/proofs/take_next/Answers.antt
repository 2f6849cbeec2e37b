-- By whether a question waits.
use Rattle.running.proofs.ScriptLaws.{next_answered, next_line_lem}
use Rattle.running.proofs.take_next.Goals as goal

pub returns-then-s : goal.returns-then-s
returns-then-s g c = next_answered _ _ _ _ _ _ c.if-s.true c.take_answer.ensures.value (rw (c.part-question.ensures, c.part-line.ensures) at c.take_answer.ensures.tally_value)

pub returns : goal.returns
returns g c = next_line_lem _ _ _ _ _ _ _ _ _ c.if-s.false c.take_line.ensures.from_value (rw c.part-line.ensures at c.take_line.ensures.tally_after)
