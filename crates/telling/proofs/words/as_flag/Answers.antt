-- Case by case.
use Rattle.telling.specs.Words.{flag_number}
use Rattle.telling.proofs.words.as_flag.Goals as goal

pub returns-then-yes : goal.returns-then-yes
unfolding flag_number
returns-then-yes c = rw c.if-yes.true

pub returns-else-yes : goal.returns-else-yes
unfolding flag_number
returns-else-yes c = rw c.if-yes.false
