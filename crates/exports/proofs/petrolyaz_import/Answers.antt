-- What `import` says, delivered, and the cells and positions as it leaves them.
use mathlib.Core.Path.{refl}
use Rattle.exports.proofs.DeliverLaws.{import_delivered}
use Rattle.exports.proofs.petrolyaz_import.Goals as goal

pub returns : goal.returns
returns c = import_delivered _ refl _ _ _ c.import.ensures.result_value c.import.ensures.cells_after c.import.ensures.positions_after c.tell_imported.ensures c.deliver.ensures.value c.deliver.ensures.answer_after
