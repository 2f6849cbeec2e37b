-- Each case of the coefficient has its reason.
use mathlib.Core.Path.{sym, ◌∙◌}
use Rattle.coefficients.specs.Coefficient.{coefficient_reason}
use Rattle.column_checks.proofs.coefficient.coefficient_reason.Goals as goal

pub returns-then-lone_minus : goal.returns-then-lone_minus
unfolding coefficient_reason
returns-then-lone_minus c = rw (sym c.lone_minus.ensures ∙ c.if-lone_minus.true, sym c.read_coefficient.ensures ∙ c.in-NotCoefficient.is)

pub returns-in-Double : goal.returns-in-Double
unfolding coefficient_reason
returns-in-Double c = rw (sym c.read_coefficient.ensures ∙ c.in-Double.is)

pub returns-else-lone_minus : goal.returns-else-lone_minus
unfolding coefficient_reason
returns-else-lone_minus c = rw (sym c.lone_minus.ensures ∙ c.if-lone_minus.false, sym c.read_coefficient.ensures ∙ c.in-NotCoefficient.is)

pub returns-in-PowerOutOfRange : goal.returns-in-PowerOutOfRange
unfolding coefficient_reason
returns-in-PowerOutOfRange c = rw (sym c.read_coefficient.ensures ∙ c.in-PowerOutOfRange.is)

pub returns-in-TooWide : goal.returns-in-TooWide
unfolding coefficient_reason
returns-in-TooWide c = rw (sym c.read_coefficient.ensures ∙ c.in-TooWide.is)
