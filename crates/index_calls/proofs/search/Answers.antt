-- By what loading the tables answers.
use mathlib.Core.Path.{ap, ◌∙◌}
use Rattle.calls.proofs.LoadLaws.{asked, refused}
use Rattle.outcomes.proofs.OutcomeLaws.{passed_on}
use Rattle.searching.specs.Search.{said_search}
use Rattle.index_calls.specs.IndexCalls.{search_of}
use Rattle.index_calls.proofs.search.Goals as goal

pub returns : goal.returns
unfolding search_of
returns c = c.search_full.ensures ∙ asked _ _ _ c.load_full.ensures c.in_ok-load_full.was _ _

pub returns-in_err-load_full : goal.returns-in_err-load_full
unfolding search_of said_search
returns-in_err-load_full c = ap said_search (passed_on _ c.from_residual.ensures) ∙ refused _ _ _ c.load_full.ensures _ c.in_err-load_full.was _ _
