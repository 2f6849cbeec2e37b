use mathlib.Core.Path.{◌≡◌}
use native.Mathlib.Omega.{arith}
use Rattle.passes.proofs.HolderLaws.{filled_none, filled_more}
use Rattle.passes.proofs.SoundLaws.{sound_is}
use Rattle.passes.proofs.sound.mark_sound.Goals as goal

pub loop-i-init : goal.loop-i-init
loop-i-init c = (omega arith, filled_none _ _)

pub loop-i-preserved : goal.loop-i-preserved
loop-i-preserved c = (
  omega arith,
  filled_more _ _ _ _ _ c.loop-i.invariant.1 (sound_is _ _ _ _ _ c.byte_at.ensures c.half_at.ensures
      c.half_at-one.ensures c.half_at-in-loop-i.ensures c.half_at-two.ensures c.sound_of.ensures) _ c.put_byte.ensures,
)

pub returns : goal.returns
returns c = let e : c.loop-i.i ≡ c.args.n = omega arith in rw (← e) c.loop-i.invariant.1
