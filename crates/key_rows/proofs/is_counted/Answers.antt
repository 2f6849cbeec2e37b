-- By what was read.
use Rattle.key_rows.proofs.KeyLaws.{counts_none, counts_member, counts_other}
use Rattle.key_rows.proofs.is_counted.Goals as goal

pub returns-then-byte-eq0 : goal.returns-then-byte-eq0
returns-then-byte-eq0 c = counts_none _ _ _ _ _ _ c.byte.ensures c.if-byte-eq0.true

pub returns-then-half : goal.returns-then-half
returns-then-half c = counts_member _ _ _ _ _ _ c.byte.ensures c.if-byte-eq0.false _ _
    c.half.ensures c.half-2.ensures c.if-half.true _ c.is_sound.ensures

pub returns : goal.returns
returns c = counts_other _ _ _ _ _ _ c.byte.ensures c.if-byte-eq0.false _ _
    c.half.ensures c.half-2.ensures c.if-half.false
