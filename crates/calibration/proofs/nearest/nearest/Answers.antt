use mathlib.Core.Path.{refl, ap₂, ◌∙◌}
use Prim.Native.Nat.{ℕ}
use native.Mathlib.Omega.{arith}
use lib.IntN.{ℤ}
use Rattle.laws.proofs.Words.{through_word}
use Rattle.calibration.specs.Nearest.{nearest_of}
use Rattle.calibration.proofs.NearestLaws.{one_further}
use Rattle.calibration.proofs.nearest.nearest.Goals as goal

pub loop-n-init : goal.loop-n-init
unfolding nearest_of
loop-n-init c = (omega arith, refl)

pub loop-n-preserved : goal.loop-n-preserved
loop-n-preserved c = (omega arith, one_further _ _ _ _ _ _ c.loop-n.invariant.1 c.choose-best.ensures)

pub returns : goal.returns
returns c = c.loop-n.invariant.1 ∙ ap₂ (λ (z : ℤ) (k : ℕ). nearest_of c.args.side c.args.xs.now z k) (through_word c.args.v c.ranges.v.sfits)
    (omega arith)
