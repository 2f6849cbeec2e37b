-- The part before the first space.
use mathlib.Core.Path.{◌∙◌}
use Rattle.scripts.proofs.WordLaws.{word_is}
use Rattle.scripts.proofs.verb.word_of.Goals as goal

pub returns : goal.returns
returns c = c.part.ensures ∙ word_is _ _ c.find_byte.ensures.0
