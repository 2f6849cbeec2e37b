-- The place in the list of words.
use Rattle.scripts.specs.Words.{question_of}
use Rattle.scripts.proofs.verb.question_of.Goals as goal

pub returns : goal.returns
unfolding question_of
returns c = c.place_in.ensures
