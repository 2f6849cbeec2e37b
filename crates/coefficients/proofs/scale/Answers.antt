-- `coefficients::scale` meets its contract: each return is a law of `Scales`.
use native.Mathlib.Omega.{arith}
use Rattle.coefficients.proofs.Scales.{held, large, small, product, quotient}
use Rattle.coefficients.proofs.scale.Goals as goal

pub returns-then-k-gt-FARTHEST : goal.returns-then-k-gt-FARTHEST
returns-then-k-gt-FARTHEST c = large _ _ c.args.up c.args.down (omega arith) (omega arith)

pub int_to_float-digits : goal.int_to_float-digits
int_to_float-digits c = held _ (omega arith)

pub returns-then-down-up : goal.returns-then-down-up
returns-then-down-up c = let a = c.args in
    product _ _ a.up a.down _ _ (omega arith) (omega arith) c.ten.ensures c.with_sign.ensures

pub returns-then-k-gt-FARTHEST-2 : goal.returns-then-k-gt-FARTHEST-2
returns-then-k-gt-FARTHEST-2 c = small _ _ c.args.up c.args.down (omega arith) (omega arith)

pub int_to_float-digits-2 : goal.int_to_float-digits-2
int_to_float-digits-2 c = held _ (omega arith)

pub returns : goal.returns
returns c = let a = c.args in
    quotient _ _ a.up a.down _ _ (omega arith) (omega arith) c.ten-2.ensures c.with_sign-2.ensures
