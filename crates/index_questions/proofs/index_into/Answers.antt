-- What is left in the list.
use Rattle.index_questions.specs.IndexReplies.{index_left}
use Rattle.index_questions.proofs.index_into.Goals as goal

pub returns : goal.returns
unfolding index_left
returns c = cc
