-- `notation::with_digit` meets its contract.
use native.Mathlib.Omega.{arith}
use Rattle.notation.specs.Scientific.{with_digit}
use Rattle.notation.proofs.with_digit.Goals as goal

pub returns-then-c-lt48 : goal.returns-then-c-lt48
unfolding with_digit
returns-then-c-lt48 c = omega arith

pub returns : goal.returns
unfolding with_digit
returns c = omega arith
