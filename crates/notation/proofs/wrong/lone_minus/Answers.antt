-- By the text's length, and its one character.
use mathlib.Core.Path.{sym}
use native.Mathlib.Omega.{arith}
use Rattle.notation.proofs.Beginnings.{minus_one, minus_other}
use Rattle.notation.proofs.wrong.lone_minus.Goals as goal

pub returns-then-text-eq1 : goal.returns-then-text-eq1
returns-then-text-eq1 c = sym (minus_one _ (omega arith))

pub returns : goal.returns
returns c = sym (minus_other _ (omega arith))
