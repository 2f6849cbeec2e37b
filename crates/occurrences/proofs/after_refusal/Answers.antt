-- 30, 31, and any other number.
use Rattle.occurrences.proofs.PassLaws.{after_off, after_beyond, after_other}
use Rattle.occurrences.proofs.after_refusal.Goals as goal

pub returns-then-number-eq30 : goal.returns-then-number-eq30
returns-then-number-eq30 c = after_off _ _ c.if-number-eq30.true

pub returns-then-number-eq31 : goal.returns-then-number-eq31
returns-then-number-eq31 c = after_beyond _ _ c.if-number-eq31.true

pub returns : goal.returns
returns c = after_other _ _ c.if-number-eq30.false c.if-number-eq31.false
