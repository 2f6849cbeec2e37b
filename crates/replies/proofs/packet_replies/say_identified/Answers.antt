-- Case by case.
use Rattle.outcomes.specs.Refusals.{refused_by}
use Rattle.identification.specs.Identification.{said_identified}
use Rattle.replies.specs.Replies.{reply_of, identity_answer}
use Rattle.replies.proofs.packet_replies.say_identified.Goals as goal

pub returns-in-Ok : goal.returns-in-Ok
unfolding reply_of identity_answer said_identified
returns-in-Ok c = rw c.in-Ok.is c.says.ensures

pub returns-in-Err : goal.returns-in-Err
unfolding reply_of said_identified refused_by
returns-in-Err c = rw c.in-Err.is c.refused_question.ensures
