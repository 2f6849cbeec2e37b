-- Case by case.
use mathlib.Core.Path.{ap, ◌∙◌}
use mir.Facts.{to_z-of_z}
use mir.Val.{SFits}
use mir.Syntax.{w64}
use Rattle.answers.specs.Answers.{integer_answer}
use Rattle.inside.specs.Inside.{field_answer}
use Rattle.fields.specs.Sign.{said_signed}
use borrow.Author.Rules.{rules}
use Rattle.inside.proofs.inner.say_signed.Goals as goal

pub returns-in-Ok : goal.returns-in-Ok
unfolding field_answer said_signed
returns-in-Ok c = let f : SFits w64 c.in-Ok.v = search rules in
    rw c.in-Ok.is (c.say_integer.ensures ∙ ap integer_answer (to_z-of_z f))

pub returns-in-Err : goal.returns-in-Err
unfolding said_signed
returns-in-Err c = rw c.in-Err.is c.say_error.ensures
