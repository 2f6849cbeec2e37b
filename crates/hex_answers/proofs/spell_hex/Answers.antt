use native.Mathlib.Omega.{arith}
use lib.ListN.{length-set}
use Rattle.hex_answers.proofs.HexLaws.{hex_start, hex_more, hex_done}
use Rattle.hex_answers.proofs.spell_hex.Goals as goal

pub loop-i-init : goal.loop-i-init
loop-i-init c = (omega arith, omega arith, hex_start c.args.n c.args.out.now)

pub loop-i-preserved : goal.loop-i-preserved
loop-i-preserved c = (omega arith, simp length-set c.loop-i.invariant.1, hex_more _ _ _ _ _ (omega arith) (omega arith) c.hex_digit.ensures c.loop-i.invariant.2)

pub returns : goal.returns
returns c = hex_done _ _ _ _ (omega arith) c.loop-i.invariant.2
