-- What `identify` says, delivered.
use mathlib.Core.Path.{refl}
use Rattle.refusal_places.proofs.CallPlaces.{identify_of_small}
use Rattle.plain_answers.specs.Values.{of_identity}
use Rattle.exports.proofs.DeliverLaws.{delivered}
use Rattle.exports.proofs.petrolyaz_identify.Goals as goal

pub returns : goal.returns
returns c = delivered of_identity _ c.identify.ensures (identify_of_small _ refl _)
    c.tell_identified.ensures c.deliver.ensures.value c.deliver.ensures.answer_after
