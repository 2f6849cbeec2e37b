-- Case by case.
use Rattle.inside.specs.Inside.{string_answer}
use Rattle.string_fields.specs.Text.{said_string}
use Rattle.inside.proofs.inner.say_string.Goals as goal

pub returns-in-Ok : goal.returns-in-Ok
unfolding string_answer said_string
returns-in-Ok c = simp (c.in-Ok.is, c.says.ensures, c.two.ensures)

pub returns-in-Outside : goal.returns-in-Outside
unfolding string_answer said_string
returns-in-Outside c = rw (c.in-Err.is, c.in-Outside.is) c.say_words.ensures

pub returns-in-OffByte : goal.returns-in-OffByte
unfolding string_answer said_string
returns-in-OffByte c = rw (c.in-Err.is, c.in-OffByte.is) c.say_words-in-OffByte.ensures

pub returns-in-NoBytes : goal.returns-in-NoBytes
unfolding string_answer said_string
returns-in-NoBytes c = rw (c.in-Err.is, c.in-NoBytes.is) c.say_words-in-NoBytes.ensures
