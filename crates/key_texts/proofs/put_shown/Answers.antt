use Rattle.laws.proofs.Values.{write_start, write_put, write_end}
use Rattle.key_texts.proofs.put_shown.Goals as goal

pub loop-k-init : goal.loop-k-init
loop-k-init c = write_start _ _ _

pub loop-k-preserved : goal.loop-k-preserved
loop-k-preserved c = write_put _ _ _ _ _ c.loop-k.invariant _ _ c.loop-k-test.true c.put_byte.ensures (cc)

pub returns : goal.returns
returns c = write_end _ _ _ _ _ c.loop-k.invariant c.loop-k-test.false
