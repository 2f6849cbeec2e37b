-- The numbers of the state.
use Rattle.replies.specs.Replies.{state_answer}
use Rattle.replies.proofs.packet_replies.say_state.Goals as goal

pub returns : goal.returns
unfolding state_answer
returns c = c.says.ensures
