-- The part is as long as it says.
use Rattle.key_symbols.proofs.WordLaws.{part_length}
use Rattle.key_symbols.proofs.words.part_word.Goals as goal

pub returns : goal.returns
returns c = (c.bytes_word.ensures.0, rw (part_length c.args.bytes.now c.args.from c.args.end c.requires.0 c.requires.1) at c.bytes_word.ensures.1)
