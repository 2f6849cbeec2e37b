-- `notation::on_digit` meets its contract.
use native.Mathlib.Omega.{arith}
use Rattle.numbers.proofs.Digits.{inside, under, over}
use Rattle.notation.specs.Stages.{on_digit}
use Rattle.notation.proofs.on_digit.Goals as goal

pub returns-then-c-lt48 : goal.returns-then-c-lt48
unfolding on_digit
returns-then-c-lt48 c = rw (under 48 57 c.args.c (omega arith))

pub returns-then-c-gt57 : goal.returns-then-c-gt57
unfolding on_digit
returns-then-c-gt57 c = rw (over 48 57 c.args.c (omega arith))

pub returns : goal.returns
unfolding on_digit
returns c = rw (inside 48 57 c.args.c (omega arith) (omega arith))
