-- By the first character.
use mathlib.Core.Path.{refl, sym, ap, ◌∙◌}
use mathlib.Core.Bool.{false}
use Prim.Native.Nat.{suc}
use Rattle.laws.specs.Walks.{wrong_at}
use Rattle.numbers.specs.Number.{start, minus, leading_zero, digits}
use Rattle.number_positions.specs.Positions.{is_stuck}
use Rattle.numbers.proofs.Firsts.{start_minus, start_zero, start_digit}
use Rattle.number_positions.proofs.WrongLaws.{lead_none, lead_then, lead_alike, then_one, then_two}
use Rattle.number_positions.proofs.wrong_in_number.Goals as goal

pub returns-then-text-eq0 : goal.returns-then-text-eq0
unfolding wrong_at
returns-then-text-eq0 c = ap suc (sym (lead_none start _ c.if-text-eq0.true))

pub returns-in-45 : goal.returns-in-45
unfolding wrong_at is_stuck
returns-in-45 c = then_two _ _ c.minus_long.ensures.0
    ∙ ap suc (sym (lead_then start minus _ c.if-text-eq0.false (start_minus _ c.in-45.is) refl))

pub returns-in-48 : goal.returns-in-48
unfolding wrong_at is_stuck
returns-in-48 c = then_two _ _ c.zero_long.ensures.0
    ∙ ap suc (sym (lead_then start leading_zero _ c.if-text-eq0.false (start_zero _ c.in-48.is) refl))

pub returns-in_default : goal.returns-in_default
unfolding wrong_at
returns-in_default c = let m = c.in_default.in_default-own.rest in
    then_one _ _ c.digits_long.ensures.0
    ∙ ap suc (sym (lead_alike start (digits 10 false 0) _ c.if-text-eq0.false (start_digit _ m.0.1 m.1)))
