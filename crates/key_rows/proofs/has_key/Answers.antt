-- By what was read.
use Rattle.key_rows.proofs.KeyLaws.{no_key, first_key, second_key}
use Rattle.key_rows.proofs.has_key.Goals as goal

pub returns-then-id-eq-NO_ID : goal.returns-then-id-eq-NO_ID
returns-then-id-eq-NO_ID c = no_key _ _ _ c.if-id-eq-NO_ID.true

pub returns-then-half-id : goal.returns-then-half-id
returns-then-half-id c = first_key _ _ _ c.if-id-eq-NO_ID.false _ c.half.ensures c.if-half-id.true

pub returns : goal.returns
returns c = second_key _ _ _ c.if-id-eq-NO_ID.false _ c.half.ensures c.if-half-id.false _ c.half-2.ensures
