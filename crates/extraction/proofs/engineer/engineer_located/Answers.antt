-- By the two rows of the parameter, and whether it has a raw value.
use mathlib.Core.Path.{refl, ap, ◌∙◌}
use Rattle.outcomes.specs.Refusals.{refused_by, refusal_number, refusal_place}
use Rattle.outcomes.proofs.OutcomeLaws.{passed_on, told, then_answer, then_refused}
use Rattle.raw_values.specs.RawValues.{said_raw}
use Rattle.engineering.specs.Engineering.{said_engineered}
use Rattle.extraction.proofs.EngineerLaws.{engineered_nowhere, engineered_at}
use Rattle.extraction.proofs.engineer.engineer_located.Goals as goal

pub returns-in_default : goal.returns-in_default
unfolding said_engineered refused_by refusal_number refusal_place
returns-in_default c = engineered_nowhere _ _ _ _ _ _ _ _ (c.locate.ensures _) c.in_default.is

pub returns-in_err-value : goal.returns-in_err-value
unfolding said_engineered said_raw
returns-in_err-value c = engineered_at _ _ _ _ _ _ _ _ (c.locate.ensures _) c.in-Some.is
    c.pcf_at-pcf.ensures (c.raw_of.ensures _ c.location_at-location.ensures)
    (ap said_engineered (passed_on _ c.from_residual.ensures) ∙ then_refused _ _ (told said_raw refl c.in_err-value.was))

pub returns : goal.returns
unfolding said_raw
returns c = engineered_at _ _ _ _ _ _ _ _ (c.locate.ensures _) c.in-Some.is
    c.pcf_at-pcf.ensures (c.raw_of.ensures _ c.location_at-location.ensures)
    (then_answer _ (told said_raw refl c.in_ok-value.was) c.engineer_read.ensures)
