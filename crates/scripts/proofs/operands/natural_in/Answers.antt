-- By what the text is.
use mathlib.Core.Path.{◌≡◌, sym, ◌∙◌, ap}
use lib.IntN.{nat_abs}
use mir.Facts.{to_z-of_z}
use mir.Val.{SFits, to_z, of_z}
use mir.Syntax.{w64}
use Rattle.numbers.specs.Number.{number_of, answer_of}
use Rattle.std.specs.Prelude.{Some, Ok, Err}
use Rattle.numbers.specs.declared.NumberError.TheVariants.{NotNumber, Beyond}
use Rattle.scripts.specs.Numerals.{natural_in}
use Rattle.scripts.proofs.NumeralLaws.{natural_below, natural_is, natural_none, natural_beyond}
use borrow.Author.Rules.{rules}
use Rattle.scripts.proofs.operands.natural_in.Goals as goal

pub returns-then-less : goal.returns-then-less
unfolding natural_in
returns-then-less c =
    let is : answer_of (number_of c.args.text.now) ≡ Ok c.in-Ok.v = sym c.read_number.ensures ∙ c.in-Ok.is in
    let word : to_z w64 (of_z w64 c.in-Ok.v) ≡ c.in-Ok.v = let f : SFits w64 c.in-Ok.v = search rules in
    to_z-of_z f in
    natural_below _ c.in-Ok.v is (rw word at (sym c.less.ensures ∙ c.if-less.true))

pub returns-else-less : goal.returns-else-less
unfolding natural_in
returns-else-less c =
    let is : answer_of (number_of c.args.text.now) ≡ Ok c.in-Ok.v = sym c.read_number.ensures ∙ c.in-Ok.is in
    let word : to_z w64 (of_z w64 c.in-Ok.v) ≡ c.in-Ok.v = let f : SFits w64 c.in-Ok.v = search rules in
    to_z-of_z f in
    ap Some (c.size.ensures ∙ ap nat_abs word)
    ∙ natural_is _ c.in-Ok.v is (rw word at (sym c.less.ensures ∙ c.if-less.false))

pub returns-in-Err-NotNumber : goal.returns-in-Err-NotNumber
unfolding natural_in
returns-in-Err-NotNumber c =
    let is : answer_of (number_of c.args.text.now) ≡ Err NotNumber = sym c.read_number.ensures ∙ c.in-Err-NotNumber.is ∙ ap Err c.in-Err-NotNumber.field-0-is in
    natural_none _ is

pub returns-in-Err-Beyond : goal.returns-in-Err-Beyond
unfolding natural_in
returns-in-Err-Beyond c =
    let is : answer_of (number_of c.args.text.now) ≡ Err Beyond = sym c.read_number.ensures ∙ c.in-Err-Beyond.is ∙ ap Err c.in-Err-Beyond.field-0-is in
    natural_beyond _ is
