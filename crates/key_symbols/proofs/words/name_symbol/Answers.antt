-- The bytes as one number, beside the length.
use mathlib.Core.Path.{◌≡◌}
use native.Mathlib.Omega.{arith}
use lib.ListN.{length}
use borrow.Author.Rules.{rules}
use Rattle.key_symbols.specs.Keyed.{name_symbol}
use Rattle.key_symbols.proofs.FitLaws.{array_fits}
use Rattle.key_symbols.proofs.words.name_symbol.Goals as goal

pub bytes_word-requires : goal.bytes_word-requires
bytes_word-requires c = let r : length c.args.name.bytes ≡ 8 = search rules in omega arith

pub returns : goal.returns
unfolding name_symbol
returns c = (rw c.bytes_word.ensures.0, array_fits 8 c.args.name.bytes (search rules) (λ i. search rules))
