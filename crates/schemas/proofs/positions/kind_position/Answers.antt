-- Each test is a case of the kinds' numbering.
use mathlib.Core.Path.{◌≡◌}
use native.Mathlib.Omega.{arith}
use borrow.Author.Tests.{ne_eqb, lt-ltb, le-ltb}
use Rattle.column_checks.specs.ColumnKinds.{kind_at}
use Rattle.schemas.specs.Positions.{position_in}
use Rattle.schemas.proofs.positions.kind_position.Goals as goal

pub returns-then-kind-eq-TEXT : goal.returns-then-kind-eq-TEXT
unfolding position_in kind_at
returns-then-kind-eq-TEXT c = let e : c.args.kind ≡ 0 = omega arith in rw e

pub returns-then-kind-eq-COEFFICIENT : goal.returns-then-kind-eq-COEFFICIENT
unfolding position_in kind_at
returns-then-kind-eq-COEFFICIENT c = let e : c.args.kind ≡ 255 = omega arith in rw e c.wrong_in_coefficient.ensures

pub returns-then-kind-lt-FIRST_LETTERS : goal.returns-then-kind-lt-FIRST_LETTERS
unfolding position_in kind_at
returns-then-kind-lt-FIRST_LETTERS c = rw (ne_eqb c.args.kind 0 (omega arith), ne_eqb c.args.kind 255 (omega arith), lt-ltb c.args.kind 128 (omega arith)) c.wrong_in_number.ensures

pub returns : goal.returns
unfolding position_in kind_at
returns c = rw (ne_eqb c.args.kind 0 (omega arith), ne_eqb c.args.kind 255 (omega arith), le-ltb c.args.kind 128 (omega arith))
