-- Each letter's arm is the definition's case for it.
use mathlib.Core.Path.{◌≡◌}
use native.Mathlib.Omega.{arith}
use borrow.Author.Tests.{ne_eqb}
use Rattle.rows.specs.Values.{off_ends_of}
use Rattle.rows.proofs.letters.OffEndsFromU8.from.Goals as goal

pub returns-in-80 : goal.returns-in-80
unfolding off_ends_of
returns-in-80 c = let e : c.args.letter ≡ 80 = omega arith in rw e

pub returns-in_default : goal.returns-in_default
unfolding off_ends_of
returns-in_default c = rw (ne_eqb _ 80 c.in_default.in_default-own.rest.1)
