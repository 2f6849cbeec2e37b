-- What `make` says, delivered.
use mathlib.Core.Path.{refl}
use Rattle.exports.proofs.DeliverLaws.{index_delivered}
use Rattle.exports.proofs.petrolyaz_index.Goals as goal

pub returns : goal.returns
returns c = index_delivered _ refl _ _ c.make.ensures.result_value c.make.ensures.rows_after c.tell_made.ensures c.deliver.ensures.value c.deliver.ensures.answer_after
