-- Each letter's arm is the definition's case for it.
use mathlib.Core.Path.{◌≡◌}
use native.Mathlib.Omega.{arith}
use borrow.Author.Tests.{ne_eqb}
use Rattle.rows.specs.Values.{check_type_of}
use Rattle.rows.proofs.letters.CheckTypeFromU8.from.Goals as goal

pub returns-in-72 : goal.returns-in-72
unfolding check_type_of
returns-in-72 c = let e : c.args.letter ≡ 72 = omega arith in rw e

pub returns-in-68 : goal.returns-in-68
unfolding check_type_of
returns-in-68 c = let e : c.args.letter ≡ 68 = omega arith in rw e

pub returns-in-67 : goal.returns-in-67
unfolding check_type_of
returns-in-67 c = let e : c.args.letter ≡ 67 = omega arith in rw e

pub returns-in-69 : goal.returns-in-69
unfolding check_type_of
returns-in-69 c = let e : c.args.letter ≡ 69 = omega arith in rw e

pub returns-in_default : goal.returns-in_default
unfolding check_type_of
returns-in_default c = rw (
  ne_eqb _ 72 c.in_default.in_default-own.rest.0.0.0.1,
  ne_eqb _ 68 c.in_default.in_default-own.rest.0.0.1,
  ne_eqb _ 67 c.in_default.in_default-own.rest.0.1,
  ne_eqb _ 69
      c.in_default.in_default-own.rest.1,
)
