-- By the text's length, and its one or two characters.
use mathlib.Core.Path.{sym, ◌∙◌}
use native.Mathlib.Omega.{arith}
use borrow.Author.Tests.{ne_eqb}
use Rattle.laws.specs.Text.{char}
use Rattle.number_positions.proofs.WrongLaws.{none_in_one, none_in_two, none_in_others, mark_alone, no_mark}
use Rattle.number_positions.proofs.no_digits.Goals as goal

pub returns-then-text-eq1 : goal.returns-then-text-eq1
returns-then-text-eq1 c = sym (none_in_one _ (omega arith))

pub returns-in-120 : goal.returns-in-120
returns-in-120 c = mark_alone _ (omega arith) c.if-text-eq48.true c.in-120.is

pub returns-in_default : goal.returns-in_default
returns-in_default c = no_mark _ (omega arith) c.if-text-eq48.true c.in_default.in_default-own.rest.1

pub returns-then-text-eq2 : goal.returns-then-text-eq2
returns-then-text-eq2 c = sym (none_in_two _ (omega arith) ∙ rw (ne_eqb _ (char "0") c.if-text-eq48.false))

pub returns : goal.returns
returns c = sym (none_in_others _ (omega arith) (omega arith))
