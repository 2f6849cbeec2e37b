use Rattle.symbols.specs.Arrays.{put_symbol}
use Rattle.symbols.proofs.places.put.Goals as goal

pub returns : goal.returns
unfolding put_symbol
returns c = rw (
  c.put_word-4.ensures,
  c.put_word-3.ensures,
  c.put_word-2.ensures,
  c.put_word.ensures,
)
