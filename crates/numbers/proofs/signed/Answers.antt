-- `numbers::signed` meets its contract: a magnitude below 2 ^ 60 fits a signed word with either sign.
use native.Mathlib.Omega.{arith}
use mathlib.Core.Path.{sym, ap, ◌∙◌}
use Rattle.std.specs.Prelude.{Ok}
use Rattle.numbers.proofs.Magnitudes.{whole_small, minus_small, large}
use Rattle.numbers.proofs.Signs.{as_pos, as_minus, minus_fits}
use Rattle.numbers.proofs.signed.Goals as goal

pub returns-then-magnitude-ge-LIMIT : goal.returns-then-magnitude-ge-LIMIT
returns-then-magnitude-ge-LIMIT c = sym (large 10 c.args.magnitude _ (omega arith))

pub overflow_sub-result : goal.overflow_sub-result
overflow_sub-result c = minus_fits c.args.magnitude (omega arith)

pub returns-then-negative : goal.returns-then-negative
returns-then-negative c = let m = c.args.magnitude in
    rw c.if-negative.true (ap Ok (as_minus m (omega arith)) ∙ sym (minus_small 10 m (omega arith)))

pub returns : goal.returns
returns c = let m = c.args.magnitude in
    rw c.if-negative.false (ap Ok (as_pos m (omega arith)) ∙ sym (whole_small 10 m (omega arith)))
