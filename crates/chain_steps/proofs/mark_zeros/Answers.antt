use mathlib.Core.Path.{refl, ap}
use Rattle.laws.proofs.Values.{write_start, write_flag, write_end}
use lib.Dec.{eqb}
use Rattle.chain_steps.proofs.mark_zeros.Goals as goal

pub loop-i-init : goal.loop-i-init
loop-i-init c = write_start _ _ _

pub loop-i-preserved : goal.loop-i-preserved
loop-i-preserved c = write_flag _ _ _ _ _ c.loop-i.invariant _ _ _ c.loop-i-test.true c.put_flag.ensures
    (ap (λ k. eqb k 0) c.half_at-cell.ensures) refl

pub returns : goal.returns
returns c = write_end _ _ _ _ _ c.loop-i.invariant c.loop-i-test.false
