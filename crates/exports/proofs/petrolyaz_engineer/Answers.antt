-- What `engineer` says, delivered.
use mathlib.Core.Path.{refl}
use Rattle.refusal_places.proofs.CallPlaces.{engineer_of_small}
use Rattle.plain_answers.specs.Values.{of_engineered}
use Rattle.exports.proofs.DeliverLaws.{delivered}
use Rattle.exports.proofs.petrolyaz_engineer.Goals as goal

pub returns : goal.returns
returns c = delivered of_engineered _ c.engineer.ensures (engineer_of_small _ refl _ _ _)
    c.tell_engineered.ensures c.deliver.ensures.value c.deliver.ensures.answer_after
