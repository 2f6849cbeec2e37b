-- Case by case.
use mathlib.Core.Path.{◌≡◌, sym, ap, ◌∙◌}
use Rattle.std.specs.Prelude.{Err}
use Rattle.numbers.specs.Number.{number_of, answer_of}
use Rattle.numbers.specs.declared.NumberError.TheVariants.{NotNumber, Beyond}
use mir.Facts.{to_z-of_z}
use mir.Val.{SFits}
use mir.Syntax.{w64}
use Rattle.answers.specs.Answers.{integer_answer}
use Rattle.inside.specs.Inside.{number_answer}
use borrow.Author.Rules.{rules}
use Rattle.inside.proofs.inner.ask_number.Goals as goal

pub returns-in-Ok : goal.returns-in-Ok
unfolding number_answer
returns-in-Ok c = let f : SFits w64 c.in-Ok.v = search rules in
    rw (← c.read_number.ensures, c.in-Ok.is) (c.say_integer.ensures ∙ ap integer_answer (to_z-of_z f))

pub returns-in-Err-NotNumber : goal.returns-in-Err-NotNumber
unfolding number_answer
returns-in-Err-NotNumber c =
    let is : answer_of (number_of c.args.text.now) ≡ Err NotNumber = sym c.read_number.ensures ∙ c.in-Err-NotNumber.is ∙ ap Err c.in-Err-NotNumber.field-0-is in
    rw is c.say_words.ensures

pub returns-in-Err-Beyond : goal.returns-in-Err-Beyond
unfolding number_answer
returns-in-Err-Beyond c =
    let is : answer_of (number_of c.args.text.now) ≡ Err Beyond = sym c.read_number.ensures ∙ c.in-Err-Beyond.is ∙ ap Err c.in-Err-Beyond.field-0-is in
    rw is c.say_words-in-Err-Beyond.ensures
