-- Case by case.
use mathlib.Core.Path.{sym, ap, ◌∙◌}
use Rattle.inside.specs.Inside.{field_answer}
use mathlib.Core.Bool.{false}
use Rattle.laws.specs.Text.{ascii}
use Rattle.fields.specs.Field.{said_unsigned}
use Rattle.answers.specs.Answers.{saying}
use Rattle.comparing.proofs.AnswerLaws.{natural_answer}
use Rattle.inside.proofs.inner.say_unsigned.Goals as goal

pub returns-in-Ok : goal.returns-in-Ok
unfolding field_answer said_unsigned
returns-in-Ok c = rw c.in-Ok.is (c.says.ensures ∙ ap (saying (ascii "#") false) c.one.ensures ∙ sym (natural_answer _))

pub returns-in-Err : goal.returns-in-Err
unfolding said_unsigned
returns-in-Err c = rw c.in-Err.is c.say_error.ensures
