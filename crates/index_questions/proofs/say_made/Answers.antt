-- Case by case.
use Rattle.outcomes.specs.Refusals.{said, refused_by}
use Rattle.replies.specs.Replies.{reply_of}
use Rattle.index_questions.proofs.say_made.Goals as goal

pub returns-in-Ok : goal.returns-in-Ok
unfolding reply_of said
returns-in-Ok c = rw c.in-Ok.is c.say_index.ensures

pub returns-in-Err : goal.returns-in-Err
unfolding reply_of said refused_by
returns-in-Err c = rw c.in-Err.is c.refused_question.ensures
