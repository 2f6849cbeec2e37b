-- 0 alone, or a decimal.
use mathlib.Core.Path.{sym, ◌∙◌}
use mathlib.Core.Bool.{true, false}
use native.Mathlib.Omega.{arith}
use Rattle.numbers.specs.Number.{minus, digits}
use Rattle.numbers.proofs.Firsts.{minus_digit}
use Rattle.number_positions.proofs.WrongLaws.{lead_none, lead_alike, lead_any, minus_zero_leads}
use Rattle.number_positions.proofs.minus_long.Goals as goal

pub returns-then-text-eq0 : goal.returns-then-text-eq0
returns-then-text-eq0 c = (sym (lead_none minus _ c.if-text-eq0.true), omega arith)

pub returns-then-text-eq48 : goal.returns-then-text-eq48
returns-then-text-eq48 c = (sym (minus_zero_leads _ c.if-text-eq0.false c.if-text-eq48.true), omega arith)

pub returns : goal.returns
returns c = (
  c.digits_long.ensures.0 ∙ lead_any 10 false true 0 0 _
      ∙ sym (lead_alike minus (digits 10 true 0) _ c.if-text-eq0.false (minus_digit _ c.if-text-eq48.false)),
  c.digits_long.ensures.1,
)
