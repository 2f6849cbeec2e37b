-- Case by case.
use mathlib.Core.Path.{ap, ◌∙◌}
use mir.Facts.{to_z-of_z}
use mir.Val.{SFits}
use mir.Syntax.{w64}
use Rattle.answers.specs.Answers.{integer_answer}
use Rattle.inside.specs.Inside.{line_answer}
use Rattle.curves.specs.Line.{said_on_line}
use borrow.Author.Rules.{rules}
use Rattle.inside.proofs.inner.say_line.Goals as goal

pub returns-in-Ok : goal.returns-in-Ok
unfolding line_answer said_on_line
returns-in-Ok c = let f : SFits w64 c.in-Ok.y = search rules in
    rw c.in-Ok.is (c.say_integer.ensures ∙ ap integer_answer (to_z-of_z f))

pub returns-in-Beyond : goal.returns-in-Beyond
unfolding line_answer said_on_line
returns-in-Beyond c = rw (c.in-Err.is, c.in-Beyond.is) c.say_words.ensures

pub returns-in-NoLine : goal.returns-in-NoLine
unfolding line_answer said_on_line
returns-in-NoLine c = rw (c.in-Err.is, c.in-NoLine.is) c.say_words-in-NoLine.ensures
