-- By the polynomial, or else along the curve.
use mathlib.Core.Path.{refl, ap, ◌∙◌}
use mir.Facts.{to_z-of_z}
use mir.Val.{SFits}
use mir.Syntax.{w64}
use Rattle.outcomes.specs.Refusals.{said}
use Rattle.outcomes.specs.Values.{value_of}
use Rattle.outcomes.proofs.OutcomeLaws.{passed_on, told, then_answer, then_refused}
use Rattle.engineering.specs.Engineering.{as_value, said_engineered}
use Rattle.engineering.proofs.EngineeringLaws.{numeric_polynomial, numeric_other}
use borrow.Author.Rules.{rules}
use Rattle.engineering.proofs.engineer.numeric_value.Goals as goal

pub returns-in-Some : goal.returns-in-Some
unfolding said_engineered
returns-in-Some c = numeric_polynomial _ _ _ c.find_polynomial.ensures _ c.in-Some.is c.evaluate.ensures (to_z-of_z c.ranges.raw)

pub returns-in_err-v-in-None : goal.returns-in_err-v-in-None
unfolding said_engineered said
returns-in_err-v-in-None c = numeric_other _ _ _ c.find_polynomial.ensures c.in-None.is
    (ap said_engineered (passed_on _ c.from_residual.ensures) ∙ then_refused as_value _ (told said refl c.in_err-v-in-None.was))
    c.scale_value.ensures (to_z-of_z c.ranges.raw)

pub returns-in_ok-v-in-None : goal.returns-in_ok-v-in-None
unfolding said_engineered value_of said as_value
returns-in_ok-v-in-None c = let f : SFits w64 c.in_ok-v-in-None.v = search rules in
    numeric_other _ _ _ c.find_polynomial.ensures c.in-None.is
    (ap as_value (to_z-of_z f) ∙ then_answer as_value (told said refl c.in_ok-v-in-None.was) refl)
    c.scale_value.ensures (to_z-of_z c.ranges.raw)
