-- Each letter's arm is the definition's case for it.
use mathlib.Core.Path.{◌≡◌}
use native.Mathlib.Omega.{arith}
use borrow.Author.Tests.{ne_eqb}
use Rattle.rows.specs.Values.{category_of}
use Rattle.rows.proofs.letters.CategoryFromU8.from.Goals as goal

pub returns-in-83 : goal.returns-in-83
unfolding category_of
returns-in-83 c = let e : c.args.letter ≡ 83 = omega arith in rw e

pub returns-in-84 : goal.returns-in-84
unfolding category_of
returns-in-84 c = let e : c.args.letter ≡ 84 = omega arith in rw e

pub returns-in_default : goal.returns-in_default
unfolding category_of
returns-in_default c = rw (ne_eqb _ 83 c.in_default.in_default-own.rest.0.1, ne_eqb _ 84 c.in_default.in_default-own.rest.1)
