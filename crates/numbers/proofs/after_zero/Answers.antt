-- `numbers::after_zero` meets its contract: x or X is the hexadecimal mark,
-- and any other character must be an octal digit.
use mathlib.Core.Path.{sym, ◌∙◌}
use Rattle.numbers.specs.Number.{leading_zero, meaning, answer_of}
use Rattle.numbers.proofs.Firsts.{no_first, first_then, first_alike, zero_mark, zero_digit}
use Rattle.numbers.proofs.after_zero.Goals as goal

pub returns-then-text-eq0 : goal.returns-then-text-eq0
unfolding meaning answer_of
returns-then-text-eq0 c = sym (no_first leading_zero _ c.if-text-eq0.true)

pub returns-in-120 : goal.returns-in-120
returns-in-120 c = c.after_hex_mark.ensures
    ∙ sym (first_then leading_zero _ _ c.if-text-eq0.false (zero_mark _ c.in-120.is))

pub returns-in_default : goal.returns-in_default
returns-in_default c = c.read_digits.ensures
    ∙ sym (first_alike leading_zero _ _ c.if-text-eq0.false (zero_digit _ c.in_default.in_default-own.rest.1))
