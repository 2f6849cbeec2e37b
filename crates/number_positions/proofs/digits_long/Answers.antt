use native.Mathlib.Omega.{arith}
use Rattle.number_positions.proofs.WrongLaws.{digit_leads, digit_stops, digit_past}
use borrow.Author.Rules.{rules}
use Rattle.number_positions.proofs.digits_long.Goals as goal

pub loop-i-init : goal.loop-i-init
loop-i-init c = (search rules, omega arith)

pub returns-then-base-digit : goal.returns-then-base-digit
returns-then-base-digit c = let z = digit_stops c.args.base c.args.text.now c.loop-i.i (omega arith) (omega arith) in
    (omega (arith, c.loop-i.invariant.1, z), omega arith)

pub loop-i-preserved : goal.loop-i-preserved
loop-i-preserved c = let m = digit_leads c.args.base c.args.text.now c.loop-i.i (omega arith) (omega arith) in
    (omega arith, omega (arith, c.loop-i.invariant.1, m))

pub returns : goal.returns
returns c = (omega (arith, c.loop-i.invariant.1, digit_past c.args.base c.args.text.now c.loop-i.i (omega arith)), omega arith)
