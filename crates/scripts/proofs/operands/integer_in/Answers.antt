-- By what the text is.
use mir.Facts.{to_z-of_z}
use mir.Val.{SFits}
use mir.Syntax.{w64}
use Rattle.scripts.proofs.NumeralLaws.{integer_is}
use Rattle.std.specs.Prelude.{Some, Err}
use Rattle.numbers.specs.Number.{number_of, answer_of}
use Rattle.numbers.specs.declared.NumberError.TheVariants.{NotNumber, Beyond}
use mathlib.Core.Path.{◌≡◌, sym, ◌∙◌, ap}
use Rattle.scripts.specs.Numerals.{integer_text, integer_of}
use borrow.Author.Rules.{rules}
use Rattle.scripts.proofs.operands.integer_in.Goals as goal

pub returns-in-Ok : goal.returns-in-Ok
unfolding integer_text
returns-in-Ok c = let v = c.in-Ok.v in
    let f : SFits w64 v = search rules in
    ap Some (to_z-of_z f) ∙ integer_is _ v (sym c.read_number.ensures ∙ c.in-Ok.is)

pub returns-in-Err-NotNumber : goal.returns-in-Err-NotNumber
unfolding integer_text integer_of
returns-in-Err-NotNumber c =
    let is : answer_of (number_of c.args.text.now) ≡ Err NotNumber = sym c.read_number.ensures ∙ c.in-Err-NotNumber.is ∙ ap Err c.in-Err-NotNumber.field-0-is in
    rw is

pub returns-in-Err-Beyond : goal.returns-in-Err-Beyond
unfolding integer_text integer_of
returns-in-Err-Beyond c =
    let is : answer_of (number_of c.args.text.now) ≡ Err Beyond = sym c.read_number.ensures ∙ c.in-Err-Beyond.is ∙ ap Err c.in-Err-Beyond.field-0-is in
    rw is
