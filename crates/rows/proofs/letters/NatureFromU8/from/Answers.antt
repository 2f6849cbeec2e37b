-- Each letter's arm is the definition's case for it.
use mathlib.Core.Path.{◌≡◌}
use native.Mathlib.Omega.{arith}
use borrow.Author.Tests.{ne_eqb}
use Rattle.rows.specs.Values.{nature_of}
use Rattle.rows.proofs.letters.NatureFromU8.from.Goals as goal

pub returns-in-68 : goal.returns-in-68
unfolding nature_of
returns-in-68 c = let e : c.args.letter ≡ 68 = omega arith in rw e

pub returns-in-80 : goal.returns-in-80
unfolding nature_of
returns-in-80 c = let e : c.args.letter ≡ 80 = omega arith in rw e

pub returns-in-72 : goal.returns-in-72
unfolding nature_of
returns-in-72 c = let e : c.args.letter ≡ 72 = omega arith in rw e

pub returns-in-83 : goal.returns-in-83
unfolding nature_of
returns-in-83 c = let e : c.args.letter ≡ 83 = omega arith in rw e

pub returns-in-67 : goal.returns-in-67
unfolding nature_of
returns-in-67 c = let e : c.args.letter ≡ 67 = omega arith in rw e

pub returns-in_default : goal.returns-in_default
unfolding nature_of
returns-in_default c = rw (
  ne_eqb _ 68 c.in_default.in_default-own.rest.0.0.0.0.1,
  ne_eqb _ 80 c.in_default.in_default-own.rest.0.0.0.1,
  ne_eqb _ 72 c.in_default.in_default-own.rest.0.0.1,
  ne_eqb _ 83
      c.in_default.in_default-own.rest.0.1,
  ne_eqb _ 67 c.in_default.in_default-own.rest.1,
)
