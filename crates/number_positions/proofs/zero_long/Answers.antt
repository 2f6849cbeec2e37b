-- x or X is the hexadecimal mark, and any other character must be an octal digit.
use mathlib.Core.Path.{refl, sym, ◌∙◌}
use mathlib.Core.Bool.{false}
use native.Mathlib.Omega.{arith}
use Rattle.numbers.specs.Number.{leading_zero, hex_mark, digits}
use Rattle.number_positions.specs.Positions.{is_stuck}
use Rattle.numbers.proofs.Firsts.{zero_mark, zero_digit}
use Rattle.number_positions.proofs.WrongLaws.{lead_none, lead_then, lead_alike, hex_leads, one_more, then_one}
use Rattle.number_positions.proofs.zero_long.Goals as goal

pub returns-then-text-eq0 : goal.returns-then-text-eq0
returns-then-text-eq0 c = (sym (lead_none leading_zero _ c.if-text-eq0.true), omega arith)

pub returns-in-120 : goal.returns-in-120
unfolding is_stuck
returns-in-120 c = let l = lead_then leading_zero hex_mark _ c.if-text-eq0.false (zero_mark _ c.in-120.is) refl in
    (then_one _ _ (c.digits_long.ensures.0 ∙ sym (hex_leads _)) ∙ sym l, one_more c.args.text.now _ c.if-text-eq0.false c.digits_long.ensures.1)

pub returns-in_default : goal.returns-in_default
returns-in_default c = (c.digits_long-in_default.ensures.0 ∙ sym (lead_alike leading_zero (digits 8 false 0) _ c.if-text-eq0.false (zero_digit _ c.in_default.in_default-own.rest.1)), c.digits_long-in_default.ensures.1)
