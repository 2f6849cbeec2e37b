-- Each answer of the number's reading, and each test of its size, is a case of the definition.
use mathlib.Core.Path.{◌≡◌, sym, ◌∙◌}
use mathlib.Core.Option.{some}
use mir.Facts.{to_z-of_z}
use mir.Val.{SFits, to_z, of_z}
use mir.Syntax.{w64}
use Rattle.numbers.specs.Number.{number_of}
use Rattle.numbers.proofs.Answers.{value_told}
use Rattle.rows.specs.Values.{natural_or}
use Rattle.rows.proofs.ValueLaws.{natural_low, natural_is, natural_high, natural_unread}
use borrow.Author.Rules.{rules}
use Rattle.rows.proofs.values.natural_or.Goals as goal

pub returns-then-v-lt0 : goal.returns-then-v-lt0
unfolding natural_or
returns-then-v-lt0 c =
    let is : number_of c.args.text.now ≡ some c.in-Ok.v = (value_told _ (sym c.read_number.ensures ∙ c.in-Ok.is)).number in
    let word : to_z w64 (of_z w64 c.in-Ok.v) ≡ c.in-Ok.v = let f : SFits w64 c.in-Ok.v = search rules in
    to_z-of_z f in
    natural_low _ is (rw word at c.if-v-lt0.true)

pub returns-then-v-lt4294967296 : goal.returns-then-v-lt4294967296
unfolding natural_or
returns-then-v-lt4294967296 c =
    let is : number_of c.args.text.now ≡ some c.in-Ok.v = (value_told _ (sym c.read_number.ensures ∙ c.in-Ok.is)).number in
    let word : to_z w64 (of_z w64 c.in-Ok.v) ≡ c.in-Ok.v = let f : SFits w64 c.in-Ok.v = search rules in
    to_z-of_z f in
    rw word (natural_is _ is (rw word at c.if-v-lt0.false) (rw word at c.if-v-lt4294967296.true))

pub returns : goal.returns
unfolding natural_or
returns c =
    let is : number_of c.args.text.now ≡ some c.in-Ok.v = (value_told _ (sym c.read_number.ensures ∙ c.in-Ok.is)).number in
    let word : to_z w64 (of_z w64 c.in-Ok.v) ≡ c.in-Ok.v = let f : SFits w64 c.in-Ok.v = search rules in
    to_z-of_z f in
    natural_high _ is (rw word at c.if-v-lt4294967296.false)

pub returns-in_default : goal.returns-in_default
unfolding natural_or
returns-in_default c = natural_unread _ _ _ (sym c.read_number.ensures ∙ c.in_default.is)
