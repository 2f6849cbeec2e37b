-- The place in the list of words.
use Rattle.scripts.specs.Words.{setting_of}
use Rattle.scripts.proofs.verb.setting_of.Goals as goal

pub returns : goal.returns
unfolding setting_of
returns c = c.place_in.ensures
