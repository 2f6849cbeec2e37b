use native.Mathlib.Omega.{arith}
use Rattle.scripts.proofs.WordLaws.{upto_here, upto_more, upto_none}
use Rattle.scripts.proofs.verb.find_byte.Goals as goal

pub loop-i-init : goal.loop-i-init
loop-i-init c = (omega arith, omega arith)

pub returns-then-text-i : goal.returns-then-text-i
returns-then-text-i c = let a = c.args in
    (omega (arith, upto_here a.byte a.text.now c.loop-i.i (omega arith) c.if-text-i.true), omega arith)

pub loop-i-preserved : goal.loop-i-preserved
loop-i-preserved c = let a = c.args in
    (omega arith, omega (arith, upto_more a.byte a.text.now c.loop-i.i (omega arith) c.if-text-i.false))

pub returns : goal.returns
returns c = let a = c.args in
    (omega (arith, upto_none a.byte a.text.now c.loop-i.i (omega arith)), omega arith)
