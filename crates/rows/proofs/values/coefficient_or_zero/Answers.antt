-- Each case of the coefficient has its double.
use mathlib.Core.Path.{sym, ap, ◌∙◌}
use Rattle.rows.specs.Values.{coefficient_from, coefficient_or_zero}
use Rattle.rows.proofs.values.coefficient_or_zero.Goals as goal

pub returns-in-Double : goal.returns-in-Double
unfolding coefficient_or_zero coefficient_from
returns-in-Double c = ap coefficient_from (sym c.in-Double.is ∙ c.read_coefficient.ensures)

pub returns-in-NotCoefficient : goal.returns-in-NotCoefficient
unfolding coefficient_or_zero coefficient_from
returns-in-NotCoefficient c = ap coefficient_from (sym c.in-NotCoefficient.is ∙ c.read_coefficient.ensures)

pub returns-in-PowerOutOfRange : goal.returns-in-PowerOutOfRange
unfolding coefficient_or_zero coefficient_from
returns-in-PowerOutOfRange c = ap coefficient_from (sym c.in-PowerOutOfRange.is ∙ c.read_coefficient.ensures)

pub returns-in-TooWide : goal.returns-in-TooWide
unfolding coefficient_or_zero coefficient_from
returns-in-TooWide c = ap coefficient_from (sym c.in-TooWide.is ∙ c.read_coefficient.ensures)
