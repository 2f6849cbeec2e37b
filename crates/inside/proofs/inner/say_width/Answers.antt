-- Case by case.
use Rattle.inside.specs.Inside.{width_answer}
use Rattle.widths.specs.Width.{bits_of}
use Rattle.inside.proofs.inner.say_width.Goals as goal

pub returns-in-Some : goal.returns-in-Some
unfolding width_answer bits_of
returns-in-Some c = simp (c.in-Some.is, c.says.ensures, c.one.ensures)

pub returns-in-None : goal.returns-in-None
unfolding width_answer bits_of
returns-in-None c = simp (c.in-None.is, c.say_words.ensures)
