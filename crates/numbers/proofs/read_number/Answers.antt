-- `numbers::read_number` meets its contract: the first character is a minus, a leading 0, or must be a decimal digit.
use mathlib.Core.Path.{sym, ◌∙◌}
use Rattle.numbers.specs.Number.{start, meaning, number_of, answer_of}
use Rattle.numbers.proofs.Firsts.{no_first, first_then, first_alike, start_minus, start_zero, start_digit}
use Rattle.numbers.proofs.read_number.Goals as goal

pub returns-then-text-eq0 : goal.returns-then-text-eq0
unfolding number_of meaning answer_of
returns-then-text-eq0 c = sym (no_first start _ c.if-text-eq0.true)

pub returns-in-45 : goal.returns-in-45
unfolding number_of
returns-in-45 c = c.after_minus.ensures
    ∙ sym (first_then start _ _ c.if-text-eq0.false (start_minus _ c.in-45.is))

pub returns-in-48 : goal.returns-in-48
unfolding number_of
returns-in-48 c = c.after_zero.ensures
    ∙ sym (first_then start _ _ c.if-text-eq0.false (start_zero _ c.in-48.is))

pub returns-in_default : goal.returns-in_default
unfolding number_of
returns-in_default c = c.read_digits.ensures
    ∙ sym (first_alike start _ _ c.if-text-eq0.false (start_digit _ c.in_default.in_default-own.rest.0.1 c.in_default.in_default-own.rest.1))
