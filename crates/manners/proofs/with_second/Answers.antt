-- The marks below 16, and the mark of 16.
use Rattle.manners.proofs.MarkLaws.{second_yes, second_no}
use Rattle.manners.proofs.with_second.Goals as goal

pub returns-then-second : goal.returns-then-second
returns-then-second c = second_yes _ _ c.if-second.true

pub returns : goal.returns
returns c = second_no _ _ c.if-second.false
