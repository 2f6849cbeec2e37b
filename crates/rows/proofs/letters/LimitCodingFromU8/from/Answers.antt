-- Each letter's arm is the definition's case for it.
use mathlib.Core.Path.{◌≡◌}
use native.Mathlib.Omega.{arith}
use borrow.Author.Tests.{ne_eqb}
use Rattle.rows.specs.Values.{limit_coding_of}
use Rattle.rows.proofs.letters.LimitCodingFromU8.from.Goals as goal

pub returns-in-82 : goal.returns-in-82
unfolding limit_coding_of
returns-in-82 c = let e : c.args.letter ≡ 82 = omega arith in rw e

pub returns-in-65 : goal.returns-in-65
unfolding limit_coding_of
returns-in-65 c = let e : c.args.letter ≡ 65 = omega arith in rw e

pub returns-in_default : goal.returns-in_default
unfolding limit_coding_of
returns-in_default c = rw (ne_eqb _ 82 c.in_default.in_default-own.rest.0.1, ne_eqb _ 65 c.in_default.in_default-own.rest.1)
