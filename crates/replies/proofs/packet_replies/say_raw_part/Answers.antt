-- By whether it is valid.
use Rattle.replies.specs.Replies.{raw_answer}
use Rattle.replies.proofs.packet_replies.say_raw_part.Goals as goal

pub returns-then-valid : goal.returns-then-valid
unfolding raw_answer
returns-then-valid c = simp (c.if-valid.true, c.says.ensures, c.two.ensures)

pub returns : goal.returns
unfolding raw_answer
returns c = simp (c.if-valid.false, c.says-2.ensures, c.two-2.ensures)
