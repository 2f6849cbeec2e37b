-- In places that are all 0.
use Rattle.index_questions.specs.IndexReplies.{index_reply}
use Rattle.index_questions.proofs.ask_index.Goals as goal

pub returns : goal.returns
unfolding index_reply
returns c = c.index_lent.ensures
