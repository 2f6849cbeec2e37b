-- `notation::next_stage` meets its contract: each arm is a law of `Steps`.
use mathlib.Core.Path.{◌∙◌}
use Rattle.notation.proofs.Steps.{start_minus, start_digit, minus_digit, whole_point, whole_on, point_on, fraction_on}
use Rattle.notation.proofs.Steps.{mark_sign, mark_digit, sign_digit, exponent_digit, stuck_on}
use Rattle.notation.proofs.next_stage.Goals as goal

pub returns-then-c-eq45 : goal.returns-then-c-eq45
returns-then-c-eq45 c = start_minus _ c.in-Start.is c.if-c-eq45.true

pub returns-then-c-eq46 : goal.returns-then-c-eq46
returns-then-c-eq46 c = whole_point _ c.in-Whole.is c.if-c-eq46.true

pub returns-else-c-eq45 : goal.returns-else-c-eq45
returns-else-c-eq45 c = c.on_digit.ensures ∙ start_digit _ c.in-Start.is c.if-c-eq45.false

pub returns-in-Minus : goal.returns-in-Minus
returns-in-Minus c = c.on_digit-in-Minus.ensures ∙ minus_digit _ c.in-Minus.is

pub returns-else-c-eq46 : goal.returns-else-c-eq46
returns-else-c-eq46 c = c.in_digits.ensures ∙ whole_on _ c.in-Whole.is c.if-c-eq46.false

pub returns-in-DecimalPoint : goal.returns-in-DecimalPoint
returns-in-DecimalPoint c = c.in_digits-in-DecimalPoint.ensures ∙ point_on _ c.in-DecimalPoint.is

pub returns-in-Fraction : goal.returns-in-Fraction
returns-in-Fraction c = c.in_digits-in-Fraction.ensures ∙ fraction_on _ c.in-Fraction.is

pub returns-in-43 : goal.returns-in-43
returns-in-43 c = mark_sign _ c.in-ExponentMark.is c.in-43.is

pub returns-in_default : goal.returns-in_default
returns-in_default c = c.on_digit-in_default.ensures ∙ mark_digit _ c.in-ExponentMark.is c.in_default.in_default-own.rest.1

pub returns-in-ExponentSign : goal.returns-in-ExponentSign
returns-in-ExponentSign c = c.on_digit-in-ExponentSign.ensures ∙ sign_digit _ c.in-ExponentSign.is

pub returns-in-Exponent : goal.returns-in-Exponent
returns-in-Exponent c = c.on_digit-in-Exponent.ensures ∙ exponent_digit _ c.in-Exponent.is

pub returns-in-Stuck : goal.returns-in-Stuck
returns-in-Stuck c = stuck_on _ c.in-Stuck.is
