-- By what was read.
use Rattle.base_verdicts.proofs.StepLaws.{next_none, next_sound, next_unsound}
use Rattle.base_verdicts.proofs.next_of.Goals as goal

pub returns-then-byte_at-eq1 : goal.returns-then-byte_at-eq1
returns-then-byte_at-eq1 c = next_sound _ _ _ _ c.naming_chained.ensures c.if-naming_chained.true _ c.byte_at.ensures
    c.if-byte_at-eq1.true

pub returns-then-naming_chained : goal.returns-then-naming_chained
returns-then-naming_chained c = next_unsound _ _ _ _ c.naming_chained.ensures c.if-naming_chained.true _ c.byte_at.ensures
    c.if-byte_at-eq1.false

pub returns : goal.returns
returns c = next_none _ _ _ _ c.naming_chained.ensures c.if-naming_chained.false
