-- Each test says which case of `matched` holds.
use mathlib.Core.Path.{sym}
use native.Mathlib.Omega.{arith}
use Rattle.spoken.proofs.SpokenLaws.{matched_here, matched_other, matched_past}
use Rattle.spoken.proofs.fit.match_byte.Goals as goal

pub returns-then-line-at : goal.returns-then-line-at
returns-then-line-at c = sym (matched_past _ _ _ (omega arith))

pub returns-then-line-at-2 : goal.returns-then-line-at-2
returns-then-line-at-2 c = sym (matched_here _ _ _ (omega arith) c.if-line-at-2.true)

pub returns : goal.returns
returns c = sym (matched_other _ _ _ (omega arith) c.if-line-at-2.false)
