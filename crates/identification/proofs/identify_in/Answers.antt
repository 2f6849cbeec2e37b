-- The header, and then what it leads to.
use mathlib.Core.Path.{ap, ◌∙◌}
use Rattle.outcomes.specs.Refusals.{said}
use Rattle.identification.specs.Identification.{identify_by, said_identified}
use Rattle.outcomes.proofs.OutcomeLaws.{passed_on, told, then_answer, then_refused}
use Rattle.identification.proofs.identify_in.Goals as goal

pub returns-in_err-head : goal.returns-in_err-head
unfolding said said_identified identify_by
returns-in_err-head c = ap said_identified (passed_on _ c.from_residual.ensures)
    ∙ then_refused _ _ (told said c.read_header.ensures c.in_err-head.was)

pub returns : goal.returns
unfolding said identify_by
returns c = then_answer _ (told said c.read_header.ensures c.in_ok-head.was) c.identify_headed.ensures
