-- Case by case.
use Rattle.inside.specs.Inside.{field_answer}
use Rattle.fields.specs.Field.{said_error}
use Rattle.inside.proofs.inner.say_error.Goals as goal

pub returns-in-Outside : goal.returns-in-Outside
unfolding field_answer said_error
returns-in-Outside c = simp (c.in-Outside.is, c.say_words.ensures)

pub returns-in-NoWidth : goal.returns-in-NoWidth
unfolding field_answer said_error
returns-in-NoWidth c = simp (c.in-NoWidth.is, c.say_words-in-NoWidth.ensures)
