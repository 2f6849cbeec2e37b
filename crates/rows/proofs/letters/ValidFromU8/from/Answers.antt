-- Each letter's arm is the definition's case for it.
use mathlib.Core.Path.{◌≡◌}
use native.Mathlib.Omega.{arith}
use borrow.Author.Tests.{ne_eqb}
use Rattle.rows.specs.Values.{valid_of}
use Rattle.rows.proofs.letters.ValidFromU8.from.Goals as goal

pub returns-in-78 : goal.returns-in-78
unfolding valid_of
returns-in-78 c = let e : c.args.letter ≡ 78 = omega arith in rw e

pub returns-in_default : goal.returns-in_default
unfolding valid_of
returns-in_default c = rw (ne_eqb _ 78 c.in_default.in_default-own.rest.1)
