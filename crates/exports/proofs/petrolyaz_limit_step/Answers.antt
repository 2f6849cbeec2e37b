-- What `limit_step_from` says, delivered.
use mathlib.Core.Path.{refl}
use Rattle.exports.proofs.StepPlaces.{step_from_small}
use Rattle.plain_answers.specs.Values.{of_state}
use Rattle.exports.proofs.DeliverLaws.{delivered}
use Rattle.exports.proofs.petrolyaz_limit_step.Goals as goal

pub returns : goal.returns
returns c = delivered of_state _ c.limit_step_from.ensures (step_from_small _ refl _ _ _)
    c.tell_stepped.ensures c.deliver.ensures.value c.deliver.ensures.answer_after
