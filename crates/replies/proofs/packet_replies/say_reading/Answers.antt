-- Case by case.
use Rattle.outcomes.specs.Refusals.{refused_by}
use Rattle.readings.specs.Readings.{said_reading}
use Rattle.replies.specs.Replies.{reply_of, reading_answer}
use Rattle.replies.proofs.packet_replies.say_reading.Goals as goal

pub returns-in-Ok : goal.returns-in-Ok
unfolding reply_of reading_answer said_reading
returns-in-Ok c = rw c.in-Ok.is c.say_raw.ensures

pub returns-in-Err : goal.returns-in-Err
unfolding reply_of said_reading refused_by
returns-in-Err c = rw c.in-Err.is c.refused_question.ensures
