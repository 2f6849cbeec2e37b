-- By what was read.
use Rattle.key_rows.proofs.KeyLaws.{not_itself, shares_first, shares_second}
use Rattle.key_rows.proofs.shares.Goals as goal

pub returns-then-i-j : goal.returns-then-i-j
returns-then-i-j c = not_itself _ _ _ c.if-i-j.true

pub returns-then-has_key : goal.returns-then-has_key
returns-then-has_key c = shares_first _ _ _ c.if-i-j.false _ c.half.ensures _ c.has_key.ensures c.if-has_key.true

pub returns : goal.returns
returns c = shares_second _ _ _ c.if-i-j.false _ c.half.ensures _
    c.has_key.ensures c.if-has_key.false _ c.half-2.ensures _ c.has_key-2.ensures
