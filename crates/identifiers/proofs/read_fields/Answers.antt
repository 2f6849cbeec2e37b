-- The first field, and then the second.
use mathlib.Core.Path.{refl, ap, ◌∙◌}
use Rattle.outcomes.specs.Refusals.{said}
use Rattle.identifiers.specs.Identifiers.{identifiers_by}
use Rattle.outcomes.proofs.OutcomeLaws.{passed_on, told, then_answer, then_refused}
use Rattle.identifiers.proofs.read_fields.Goals as goal

pub returns-in_err-pi1 : goal.returns-in_err-pi1
unfolding said identifiers_by
returns-in_err-pi1 c = ap said (passed_on _ c.from_residual.ensures) ∙ then_refused _ _ (told said c.read_field.ensures c.in_err-pi1.was)

pub returns-in_err-pi2 : goal.returns-in_err-pi2
unfolding said identifiers_by
returns-in_err-pi2 c = ap said (passed_on _ c.from_residual-in_err-pi2.ensures) ∙ then_answer _ (told said c.read_field.ensures c.in_ok-pi1.was)
    (then_refused _ _ (told said c.read_field-2.ensures c.in_err-pi2.was))

pub returns : goal.returns
unfolding said identifiers_by
returns c = then_answer _ (told said c.read_field.ensures c.in_ok-pi1.was)
    (then_answer _ (told said c.read_field-2.ensures c.in_ok-pi2.was) refl)
