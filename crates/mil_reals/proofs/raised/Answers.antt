-- By the exponent's sign.
use native.Mathlib.Omega.{arith}
use Rattle.mil_reals.proofs.Powers.{up_power, down_power}
use Rattle.mil_reals.proofs.raised.Goals as goal

pub returns-then-x-lt128 : goal.returns-then-x-lt128
returns-then-x-lt128 c = let a = c.args in (up_power a.width a.x (omega arith) (omega arith) (omega arith), omega arith, omega arith)

pub returns : goal.returns
returns c = let a = c.args in
    (down_power a.width a.x (omega arith) (omega arith) (omega arith) (omega arith), omega arith, omega arith)
