-- Each test is made on the bits of two values that fit; a number beyond every word is beyond every range.
use mathlib.Core.Path.{◌≡◌, sym, ap, ◌∙◌}
use mathlib.Core.Bool.{Bool}
use mathlib.Core.Option.{some}
use lib.Signed.{le_z}
use mir.Syntax.{w64}
use mir.Val.{SFits, to_z, of_z}
use mir.Facts.{to_z-of_z}
use Rattle.std.specs.Prelude.{Err}
use Rattle.numbers.specs.Number.{number_of}
use Rattle.numbers.proofs.Answers.{value_told, not_number, beyond_large}
use Rattle.column_checks.proofs.ReasonLaws.{in_range, too_high, too_low, without_digits, wrong_digit, too_large}
use borrow.Author.Rules.{rules}
use Rattle.column_checks.proofs.ranges.range_reason.Goals as goal

pub returns-then-v-highest : goal.returns-then-v-highest
returns-then-v-highest c =
    let is : number_of c.args.text.now ≡ some c.in-Ok.v = (value_told _ (sym c.read_number.ensures ∙ c.in-Ok.is)).number in
    let fits : SFits w64 c.in-Ok.v = search rules in
    let low : (t : Bool) → le_z (to_z w64 (of_z w64 c.args.lowest)) (to_z w64 (of_z w64 c.in-Ok.v)) ≡ t → le_z c.args.lowest c.in-Ok.v ≡ t = λ _ e. sym (rw (to_z-of_z c.ranges.lowest, to_z-of_z fits)) ∙ e in
    let high : (t : Bool) → le_z (to_z w64 (of_z w64 c.in-Ok.v)) (to_z w64 (of_z w64 c.args.highest)) ≡ t → le_z c.in-Ok.v c.args.highest ≡ t = λ _ e. sym (rw (to_z-of_z c.ranges.highest, to_z-of_z fits)) ∙ e in
    in_range _ _ _ is (low _ c.if-lowest-v.true) (high _ c.if-v-highest.true)

pub returns-then-lowest-v : goal.returns-then-lowest-v
returns-then-lowest-v c =
    let is : number_of c.args.text.now ≡ some c.in-Ok.v = (value_told _ (sym c.read_number.ensures ∙ c.in-Ok.is)).number in
    let fits : SFits w64 c.in-Ok.v = search rules in
    let low : (t : Bool) → le_z (to_z w64 (of_z w64 c.args.lowest)) (to_z w64 (of_z w64 c.in-Ok.v)) ≡ t → le_z c.args.lowest c.in-Ok.v ≡ t = λ _ e. sym (rw (to_z-of_z c.ranges.lowest, to_z-of_z fits)) ∙ e in
    let high : (t : Bool) → le_z (to_z w64 (of_z w64 c.in-Ok.v)) (to_z w64 (of_z w64 c.args.highest)) ≡ t → le_z c.in-Ok.v c.args.highest ≡ t = λ _ e. sym (rw (to_z-of_z c.ranges.highest, to_z-of_z fits)) ∙ e in
    too_high _ _ _ is (low _ c.if-lowest-v.true) (high _ c.if-v-highest.false)

pub returns-then-no_digits : goal.returns-then-no_digits
returns-then-no_digits c = without_digits _ _ _ (not_number _ (sym c.read_number.ensures ∙ c.in-Err-NotNumber.is ∙ ap Err c.in-Err-NotNumber.field-0-is))
    (sym c.no_digits.ensures ∙ c.if-no_digits.true)

pub returns-else-lowest-v : goal.returns-else-lowest-v
returns-else-lowest-v c =
    let is : number_of c.args.text.now ≡ some c.in-Ok.v = (value_told _ (sym c.read_number.ensures ∙ c.in-Ok.is)).number in
    let fits : SFits w64 c.in-Ok.v = search rules in
    let low : (t : Bool) → le_z (to_z w64 (of_z w64 c.args.lowest)) (to_z w64 (of_z w64 c.in-Ok.v)) ≡ t → le_z c.args.lowest c.in-Ok.v ≡ t = λ _ e. sym (rw (to_z-of_z c.ranges.lowest, to_z-of_z fits)) ∙ e in
    too_low _ _ _ is (low _ c.if-lowest-v.false)

pub returns-else-no_digits : goal.returns-else-no_digits
returns-else-no_digits c = wrong_digit _ _ _ (not_number _ (sym c.read_number.ensures ∙ c.in-Err-NotNumber.is ∙ ap Err c.in-Err-NotNumber.field-0-is))
    (sym c.no_digits.ensures ∙ c.if-no_digits.false)

pub returns-in-Err-Beyond : goal.returns-in-Err-Beyond
returns-in-Err-Beyond c = too_large _ _ _ c.requires.0 c.requires.1 (beyond_large _ (sym c.read_number.ensures ∙ c.in-Err-Beyond.is ∙ ap Err c.in-Err-Beyond.field-0-is))
