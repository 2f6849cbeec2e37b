use Rattle.symbols.specs.Arrays.{symbol_at}
use Rattle.symbols.proofs.places.symbol_at.Goals as goal

pub returns : goal.returns
unfolding symbol_at
returns c = λ z. record {
  space = c.word_at.ensures z;
  a = c.word_at-2.ensures z;
  b = c.word_at-3.ensures z;
  c = c.word_at-4.ensures z;
}
