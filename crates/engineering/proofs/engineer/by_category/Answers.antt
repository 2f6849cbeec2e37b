-- Category by category.
use mathlib.Core.Path.{refl, ap, ◌∙◌}
use mir.Facts.{to_z-of_z}
use Rattle.outcomes.specs.Values.{value_of}
use Rattle.outcomes.proofs.OutcomeLaws.{passed_on, told, then_answer, then_refused}
use Rattle.texts.specs.Texts.{said_text}
use Rattle.engineering.specs.Engineering.{as_value, as_text, said_engineered}
use Rattle.engineering.proofs.EngineeringLaws.{numeric_value_lem, status_text, text_raw}
use Rattle.engineering.proofs.engineer.by_category.Goals as goal

pub returns-in-Numeric : goal.returns-in-Numeric
returns-in-Numeric c = numeric_value_lem _ _ _ (to_z-of_z c.ranges.raw) c.in-Numeric.is c.numeric_value.ensures

pub returns-in_err-text-in-Status : goal.returns-in_err-text-in-Status
unfolding said_engineered said_text
returns-in_err-text-in-Status c = status_text _ _ _ (to_z-of_z c.ranges.raw) c.in-Status.is
    (ap said_engineered (passed_on _ c.from_residual.ensures) ∙ then_refused as_text _ (told said_text refl c.in_err-text-in-Status.was))
    c.text_value.ensures

pub returns-in_ok-text-in-Status : goal.returns-in_ok-text-in-Status
unfolding said_engineered said_text as_text
returns-in_ok-text-in-Status c = status_text _ _ _ (to_z-of_z c.ranges.raw) c.in-Status.is
    (then_answer as_text (told said_text refl c.in_ok-text-in-Status.was) refl)
    c.text_value.ensures

pub returns-in-Text : goal.returns-in-Text
unfolding said_engineered value_of as_value
returns-in-Text c = text_raw _ _ _ (to_z-of_z c.ranges.raw) c.in-Text.is
