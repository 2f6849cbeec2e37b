-- The number and one, or 0.
use Rattle.key_symbols.specs.Keyed.{apid_word}
use Rattle.key_symbols.proofs.words.apid_word.Goals as goal

pub returns-in-Some : goal.returns-in-Some
unfolding apid_word
returns-in-Some c = rw c.in-Some.is

pub returns-in-None : goal.returns-in-None
unfolding apid_word
returns-in-None c = rw c.in-None.is
