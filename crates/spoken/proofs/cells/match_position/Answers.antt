-- A position that is 0, or its sign and number.
use Rattle.spoken.proofs.SpokenLaws.{position_none, position_said}
use Rattle.spoken.proofs.cells.match_position.Goals as goal

pub returns-then-position-eq0 : goal.returns-then-position-eq0
returns-then-position-eq0 c = position_none _ _ _ c.if-position-eq0.true

pub returns : goal.returns
returns c = rw (c.match_decimal.ensures, c.match_byte-after_sign.ensures) (position_said _ _ _ c.if-position-eq0.false)
