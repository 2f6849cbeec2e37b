-- Eight bytes as one number, and the last two.
use mathlib.Core.Path.{◌≡◌}
use native.Mathlib.Omega.{arith}
use lib.ListN.{length}
use borrow.Author.Rules.{rules}
use Rattle.key_symbols.specs.Keyed.{curve_symbol}
use Rattle.key_symbols.proofs.WordLaws.{last_two_lem}
use Rattle.key_symbols.proofs.FitLaws.{array_fits}
use Rattle.key_symbols.proofs.words.curve_symbol.Goals as goal

pub part_word-requires : goal.part_word-requires
part_word-requires c = let r : length c.args.name.bytes ≡ 10 = search rules in
    (omega arith, omega arith, omega arith)

pub part_word-requires-2 : goal.part_word-requires-2
part_word-requires-2 c = let r : length c.args.name.bytes ≡ 10 = search rules in
    (omega arith, omega arith, omega arith)

pub returns : goal.returns
unfolding curve_symbol
returns c = let r : length c.args.name.bytes ≡ 10 = search rules in (
  rw (c.part_word.ensures.0, c.part_word-2.ensures.0, last_two_lem c.args.name.bytes r),
  array_fits 10 c.args.name.bytes r (λ i. search rules),
  c.part_word-2.ensures.1,
)
