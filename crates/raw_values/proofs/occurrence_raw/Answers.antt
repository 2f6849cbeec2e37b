-- By the numbers of the plf row.
use mathlib.Core.Path.{◌∙◌}
use Rattle.outcomes.specs.Refusals.{refused_by, refusal_number, refusal_place}
use Rattle.raw_values.specs.RawValues.{said_raw}
use Rattle.raw_values.proofs.RawLaws.{no_occurrence, occurrence_is}
use Rattle.raw_values.proofs.occurrence_raw.Goals as goal

pub returns-then-location-k : goal.returns-then-location-k
unfolding said_raw refused_by refusal_number refusal_place
returns-then-location-k c plf d = no_occurrence _ _ plf _ _ _ _ d c.if-location-k.true

pub returns : goal.returns
returns c plf d = c.field_raw.ensures ∙ occurrence_is _ _ plf _ _ _ _ d _ c.if-location-k.false c.start_of.ensures.0
