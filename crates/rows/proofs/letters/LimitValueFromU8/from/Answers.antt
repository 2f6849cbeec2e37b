-- Each letter's arm is the definition's case for it.
use mathlib.Core.Path.{◌≡◌}
use native.Mathlib.Omega.{arith}
use borrow.Author.Tests.{ne_eqb}
use Rattle.rows.specs.Values.{limit_value_of}
use Rattle.rows.proofs.letters.LimitValueFromU8.from.Goals as goal

pub returns-in-67 : goal.returns-in-67
unfolding limit_value_of
returns-in-67 c = let e : c.args.letter ≡ 67 = omega arith in rw e

pub returns-in_default : goal.returns-in_default
unfolding limit_value_of
returns-in_default c = rw (ne_eqb _ 67 c.in_default.in_default-own.rest.1)
