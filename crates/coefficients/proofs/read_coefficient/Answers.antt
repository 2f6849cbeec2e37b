-- `coefficients::read_coefficient` meets its contract: by what the text was parsed as.
use mathlib.Core.Path.{sym, ◌∙◌}
use Rattle.notation.proofs.Room.{parsed_short}
use Rattle.coefficients.specs.Coefficient.{valued}
use Rattle.coefficients.proofs.Scales.{by_parsed}
use Rattle.coefficients.proofs.read_coefficient.Goals as goal

pub to_double-requires : goal.to_double-requires
to_double-requires c = parsed_short _ (sym c.parse.ensures ∙ c.in-Parts.is)

pub returns-in-Parts : goal.returns-in-Parts
unfolding valued
returns-in-Parts c = c.to_double.ensures ∙ by_parsed _ c.parse.ensures c.in-Parts.is

pub returns-in-NotCoefficient : goal.returns-in-NotCoefficient
unfolding valued
returns-in-NotCoefficient c = by_parsed _ c.parse.ensures c.in-NotCoefficient.is

pub returns-in-TooWide : goal.returns-in-TooWide
unfolding valued
returns-in-TooWide c = by_parsed _ c.parse.ensures c.in-TooWide.is
