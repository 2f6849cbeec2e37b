-- The text follows.
use Rattle.replies.specs.Replies.{engineered_answer}
use Rattle.replies.proofs.packet_replies.say_text.Goals as goal

pub returns : goal.returns
unfolding engineered_answer
returns c = c.compose.ensures
