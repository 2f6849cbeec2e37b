-- Case by case.
use mathlib.Core.Path.{ap, sym, ◌∙◌}
use Rattle.outcomes.specs.Refusals.{refused_by}
use Rattle.searching.specs.Search.{identity_in, said_search}
use Rattle.index_telling.specs.Values.{plain_search}
use Rattle.index_telling.proofs.tell_searched.Goals as goal

pub returns-in-Some : goal.returns-in-Some
unfolding identity_in said_search plain_search
returns-in-Some c = rw (c.in-Ok.is, c.in-Some.is) c.tell_found.ensures

pub returns-in-None : goal.returns-in-None
unfolding identity_in said_search plain_search
returns-in-None c = rw (c.in-Ok.is, c.in-None.is) c.tell_missing.ensures

pub returns-in-Err : goal.returns-in-Err
unfolding said_search plain_search refused_by
returns-in-Err c = c.tell_refusal.ensures ∙ sym (ap (λ s. plain_search (said_search s)) c.in-Err.is)
