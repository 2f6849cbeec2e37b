-- By the rows of the parameter, and whether it has a raw value.
use mathlib.Core.Path.{refl, ap, ◌∙◌}
use Rattle.outcomes.specs.Outcome.{and_then}
use Rattle.outcomes.specs.Refusals.{refused_by, refusal_number, refusal_place}
use Rattle.outcomes.proofs.OutcomeLaws.{passed_on, told}
use Rattle.raw_values.specs.RawValues.{said_raw}
use Rattle.readings.specs.Readings.{said_reading, reading, with_validity}
use Rattle.readings.proofs.ReadingLaws.{read_unlocated, read_located}
use Rattle.located_readings.proofs.read.Goals as goal

pub returns-in_default : goal.returns-in_default
unfolding reading said_reading refused_by refusal_number refusal_place
returns-in_default c = read_unlocated _ _ _ _ _ _ _ _ _ (c.locate.ensures _) c.in_default.is

pub returns-in_err-value : goal.returns-in_err-value
unfolding reading said_reading said_raw refused_by and_then
returns-in_err-value c = ap said_reading (passed_on _ c.from_residual.ensures)
    ∙ read_located _ _ _ _ _ _ _ _ _ (c.locate.ensures _) c.in-Some.is _ _ _
    c.pcf_at-pcf.ensures (told said_raw (c.raw_of.ensures _ c.location_at-location.ensures) c.in_err-value.was) refl

pub returns : goal.returns
unfolding reading said_reading said_raw and_then with_validity
returns c = read_located _ _ _ _ _ _ _ _ _ (c.locate.ensures _) c.in-Some.is _ _ _
    c.pcf_at-pcf.ensures (told said_raw (c.raw_of.ensures _ c.location_at-location.ensures) c.in_ok-value.was) c.validity-valid.ensures
