-- A minus, or nothing.
use Rattle.spoken.specs.Spoken.{sign_text, matched_all}
use Rattle.spoken.proofs.spelling.match_sign.Goals as goal

pub returns-then-negative : goal.returns-then-negative
unfolding sign_text matched_all
returns-then-negative c = rw c.if-negative.true c.match_byte.ensures

pub returns : goal.returns
unfolding sign_text matched_all
returns c = rw c.if-negative.false
