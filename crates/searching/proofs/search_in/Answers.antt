-- The test of the list, the header, and then what it leads to.
use mathlib.Core.Path.{ap, sym, ◌∙◌}
use Rattle.outcomes.specs.Refusals.{said, refused_by, refusal_number, refusal_place}
use Rattle.outcomes.proofs.OutcomeLaws.{passed_on, told, then_answer, then_refused}
use Rattle.searching.specs.Search.{said_search}
use Rattle.searching.proofs.SearchingLaws.{list_refused, list_taken}
use Rattle.searching.proofs.search_in.Goals as goal

pub returns-then-not-is_index : goal.returns-then-not-is_index
unfolding said_search refused_by refusal_number refusal_place
returns-then-not-is_index c = list_refused _ _ _ (sym c.is_index.ensures ∙ c.if-not-is_index.true)

pub returns-in_err-head : goal.returns-in_err-head
unfolding said said_search
returns-in_err-head c = ap said_search (passed_on _ c.from_residual.ensures) ∙ list_taken _ _ _ (sym c.is_index.ensures ∙ c.if-not-is_index.false)
    (then_refused _ _ (told said c.read_header.ensures c.in_err-head.was))

pub search_headed-requires : goal.search_headed-requires
search_headed-requires c = sym c.is_index.ensures ∙ c.if-not-is_index.false

pub returns : goal.returns
unfolding said
returns c = list_taken _ _ _ (sym c.is_index.ensures ∙ c.if-not-is_index.false)
    (then_answer _ (told said c.read_header.ensures c.in_ok-head.was) c.search_headed.ensures)
