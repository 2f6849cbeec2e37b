-- By whether a question waits.
use Rattle.running.specs.Script.{closing, closed_by, standing_in}
use Rattle.running.proofs.close.Goals as goal

pub returns-then-s : goal.returns-then-s
unfolding closing closed_by standing_in
returns-then-s g c = λ space ends. rw c.if-s.true c.count.ensures

pub returns : goal.returns
unfolding closing closed_by standing_in
returns g c = λ space ends. rw c.if-s.false
