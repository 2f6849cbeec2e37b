-- What `search` says, delivered.
use mathlib.Core.Path.{refl, ap, ◌∙◌}
use Rattle.index_telling.specs.Values.{plain_search}
use Rattle.exports.proofs.IndexPlaces.{search_of_places}
use Rattle.exports.proofs.DeliverLaws.{plainly_delivered}
use Rattle.exports.proofs.petrolyaz_search.Goals as goal

pub returns : goal.returns
returns c = plainly_delivered _ (c.tell_searched.ensures ∙ ap plain_search c.search.ensures)
    (search_of_places _ refl _ _) c.deliver.ensures.value c.deliver.ensures.answer_after
