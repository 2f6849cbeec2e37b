use mathlib.Core.Path.{◌≡◌, refl, ◌∙◌}
use Prim.Native.Nat.{◌-◌, ◌*◌}
use native.Mathlib.Omega.{arith}
use Rattle.verdicts.specs.Answer.{most_rows}
use Rattle.readings.specs.Readings.{validity}
use Rattle.readings.proofs.ReadingLaws.{not_true, not_false, valid_free}
use Rattle.located_readings.proofs.FollowLaws.{block_last, block_on, no_block}
use Rattle.located_readings.proofs.validity.Goals as goal

pub returns-then-not-row : goal.returns-then-not-row
unfolding validity
returns-then-not-row c = valid_free _ _ _ most_rows _ _ refl (not_true _ c.if-not-row.true)

pub loop-blocks-init : goal.loop-blocks-init
unfolding validity
loop-blocks-init c = refl

pub returns-then-not-block : goal.returns-then-not-block
returns-then-not-block c = block_last _ _ _ _ _ (c.valid_block-block.ensures (16 * c.loop-blocks.blocks) (omega arith) ∙ c.loop-blocks.invariant) (not_true _ c.if-not-block.true)

pub loop-blocks-preserved : goal.loop-blocks-preserved
loop-blocks-preserved c = let e : 16 * (c.loop-blocks.blocks - 1) ≡ 16 * c.loop-blocks.blocks - 16 = omega arith in
    rw e (block_on _ _ _ _ _ (c.valid_block-block.ensures (16 * c.loop-blocks.blocks) (omega arith) ∙ c.loop-blocks.invariant) (not_false _ c.if-not-block.false))

pub returns : goal.returns
returns c = let z : 16 * c.loop-blocks.blocks ≡ 0 = omega arith in
    no_block _ _ _ _ z c.loop-blocks.invariant
