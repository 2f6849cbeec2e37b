-- Case by case.
use Rattle.outcomes.specs.Refusals.{refused_by}
use Rattle.searching.specs.Search.{identity_in, said_search}
use Rattle.replies.specs.Replies.{reply_of}
use Rattle.index_questions.specs.IndexReplies.{found_answer, compared_answer}
use Rattle.index_questions.proofs.say_search.Goals as goal

pub returns-in-Some : goal.returns-in-Some
unfolding reply_of compared_answer found_answer identity_in said_search
returns-in-Some c = rw (c.in-Ok.is, c.in-Some.is) c.says.ensures

pub returns-in-None : goal.returns-in-None
unfolding reply_of compared_answer found_answer identity_in said_search
returns-in-None c = rw (c.in-Ok.is, c.in-None.is) c.says-in-None.ensures

pub returns-in-Err : goal.returns-in-Err
unfolding reply_of said_search refused_by
returns-in-Err c = rw c.in-Err.is c.refused_question.ensures
