-- Each letter's arm is the definition's case for it.
use mathlib.Core.Path.{◌≡◌}
use native.Mathlib.Omega.{arith}
use borrow.Author.Tests.{ne_eqb}
use Rattle.rows.specs.Values.{format_of}
use Rattle.rows.proofs.letters.FormatFromU8.from.Goals as goal

pub returns-in-85 : goal.returns-in-85
unfolding format_of
returns-in-85 c = let e : c.args.letter ≡ 85 = omega arith in rw e

pub returns-in-82 : goal.returns-in-82
unfolding format_of
returns-in-82 c = let e : c.args.letter ≡ 82 = omega arith in rw e

pub returns-in_default : goal.returns-in_default
unfolding format_of
returns-in_default c = rw (ne_eqb _ 85 c.in_default.in_default-own.rest.0.1, ne_eqb _ 82 c.in_default.in_default-own.rest.1)
