-- `notation::in_digits` meets its contract.
use mathlib.Core.Path.{◌∙◌}
use Rattle.notation.proofs.Steps.{mark, no_mark}
use Rattle.notation.proofs.in_digits.Goals as goal

pub returns-in-69 : goal.returns-in-69
returns-in-69 c = mark _ _ c.in-69.is

pub returns-in_default : goal.returns-in_default
returns-in_default c = c.on_digit.ensures ∙ no_mark _ _ c.in_default.in_default-own.rest.1
