-- The numbers in two words.
use Prim.Native.Nat.{◌^◌}
use borrow.Author.Tests.{lt-ltb}
use borrow.Author.Rules.{rules}
use Rattle.key_symbols.specs.Keyed.{symbol_of}
use Rattle.key_symbols.specs.Bounded.{key_fits}
use Rattle.key_symbols.proofs.identification_key.Goals as goal

pub returns : goal.returns
unfolding symbol_of key_fits
returns c = (rw (c.two_halves.ensures, c.apid_word.ensures), lt-ltb c.args.stype (2 ^ 32) (search rules))
