-- `numbers::after_minus` meets its contract: 0 stands alone, and any other character must be a decimal digit.
use native.Mathlib.Omega.{arith}
use mathlib.Core.Path.{sym, ◌∙◌}
use Rattle.numbers.specs.Number.{minus, meaning, answer_of}
use Rattle.numbers.proofs.Firsts.{no_first, first_alike, minus_zero_lem, minus_zeros, minus_digit}
use Rattle.numbers.proofs.after_minus.Goals as goal

pub returns-then-text-eq0 : goal.returns-then-text-eq0
unfolding meaning answer_of
returns-then-text-eq0 c = sym (no_first minus _ c.if-text-eq0.true)

pub returns-then-text-eq1 : goal.returns-then-text-eq1
returns-then-text-eq1 c = sym (minus_zero_lem c.args.text.now (omega arith) (omega arith))

pub returns-then-text-eq48 : goal.returns-then-text-eq48
returns-then-text-eq48 c = sym (minus_zeros c.args.text.now (omega arith) (omega arith) (omega arith))

pub returns : goal.returns
returns c = c.read_digits.ensures ∙ sym (first_alike minus _ _ c.if-text-eq0.false (minus_digit _ c.if-text-eq48.false))
