-- PI1 and PI2, and then the pid row.
use mathlib.Core.Path.{refl, ap, ◌∙◌}
use Rattle.outcomes.specs.Refusals.{said}
use Rattle.five_numbers.specs.Numbers.{five_numbers}
use Rattle.identification.specs.Identification.{choose_by, identify_headed, said_identified}
use Rattle.outcomes.proofs.OutcomeLaws.{passed_on, told, then_answer, then_refused}
use Rattle.identification.proofs.identify_headed.Goals as goal

pub returns-in_err-pair : goal.returns-in_err-pair
unfolding said said_identified five_numbers identify_headed
returns-in_err-pair c = ap said_identified (passed_on _ c.from_residual.ensures)
    ∙ then_refused _ _ (then_refused _ _ (told said c.identifiers_of.ensures c.in_err-pair.was))

pub returns : goal.returns
unfolding said five_numbers identify_headed
returns c = then_answer _ (then_answer _ (told said c.identifiers_of.ensures c.in_ok-pair.was) refl)
    (c.choose.ensures ∙ ap (choose_by _) c.numbers_of.ensures)
