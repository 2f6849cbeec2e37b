-- What `extract` says, delivered.
use mathlib.Core.Path.{refl}
use Rattle.refusal_places.proofs.CallPlaces.{extract_of_small}
use Rattle.plain_answers.specs.Values.{of_reading}
use Rattle.exports.proofs.DeliverLaws.{delivered}
use Rattle.exports.proofs.petrolyaz_extract.Goals as goal

pub returns : goal.returns
returns c = delivered of_reading _ c.extract.ensures (extract_of_small _ refl _ _ _)
    c.tell_extracted.ensures c.deliver.ensures.value c.deliver.ensures.answer_after
