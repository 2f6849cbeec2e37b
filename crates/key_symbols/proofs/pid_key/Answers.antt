-- The numbers in three words.
use Prim.Native.Nat.{◌^◌}
use borrow.Author.Tests.{lt-ltb}
use borrow.Author.Rules.{rules}
use Rattle.laws.proofs.Cases.{and_both}
use Rattle.key_symbols.specs.Keyed.{symbol_of}
use Rattle.key_symbols.specs.Bounded.{key_fits}
use Rattle.key_symbols.proofs.pid_key.Goals as goal

pub returns : goal.returns
unfolding symbol_of key_fits
returns c = (
  rw (c.two_halves.ensures, c.two_halves-2.ensures),
  and_both (lt-ltb c.args.stype (2 ^ 32) (search rules)) (lt-ltb c.args.pi1 (2 ^ 32) (search rules)),
)
