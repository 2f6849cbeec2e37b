-- Case by case.
use Rattle.outcomes.specs.Refusals.{refused_by}
use Rattle.accepting.specs.Answer.{said_step}
use Rattle.replies.specs.Replies.{reply_of}
use Rattle.replies.proofs.packet_replies.say_stepped.Goals as goal

pub returns-in-Ok : goal.returns-in-Ok
unfolding reply_of said_step
returns-in-Ok c = rw c.in-Ok.is c.say_state.ensures

pub returns-in-Err : goal.returns-in-Err
unfolding reply_of said_step refused_by
returns-in-Err c = rw c.in-Err.is c.refused_question.ensures
