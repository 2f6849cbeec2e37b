-- By what was read.
use Rattle.key_rows.proofs.KeyLaws.{sound_cell, sound_own}
use Rattle.key_rows.proofs.is_sound.Goals as goal

pub returns-then-half-eq0 : goal.returns-then-half-eq0
returns-then-half-eq0 c = sound_cell _ _ _ _ c.half.ensures c.if-half-eq0.true _ c.half_at.ensures

pub returns : goal.returns
returns c = sound_own _ _ _ _ c.half.ensures c.if-half-eq0.false
