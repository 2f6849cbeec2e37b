-- PI1 and PI2, and then the search.
use mathlib.Core.Path.{refl, ap, ◌∙◌}
use Rattle.outcomes.specs.Refusals.{said}
use Rattle.five_numbers.specs.Numbers.{five_numbers}
use Rattle.outcomes.proofs.OutcomeLaws.{passed_on, told, then_answer, then_refused}
use Rattle.searching.specs.Search.{said_search}
use Rattle.searching.proofs.SearchingLaws.{same_compared}
use Rattle.searching.proofs.search_headed.Goals as goal

pub returns-in_err-pair : goal.returns-in_err-pair
unfolding said said_search five_numbers
returns-in_err-pair c = ap said_search (passed_on _ c.from_residual.ensures)
    ∙ then_refused _ _ (then_refused _ _ (told said c.identifiers_of.ensures c.in_err-pair.was))

pub search_numbers-requires : goal.search_numbers-requires
search_numbers-requires c = c.requires

pub returns : goal.returns
unfolding said said_search five_numbers
returns c = then_answer _ (then_answer _ (told said c.identifiers_of.ensures c.in_ok-pair.was) refl)
    (same_compared _ _ c.search_numbers.ensures c.numbers_of-numbers.ensures)
