-- The length has 48 bits beside the last two bytes.
use native.Mathlib.Omega.{arith}
use mir.Facts.{to_z-of_z}
use Rattle.key_symbols.specs.Keyed.{curve_symbol, value_symbol}
use Rattle.key_symbols.proofs.words.value_symbol.Goals as goal

pub overflow_add-result : goal.overflow_add-result
overflow_add-result c = omega (arith, c.curve_symbol-whole.ensures.2)

pub returns : goal.returns
unfolding curve_symbol value_symbol
returns c = rw (c.curve_symbol-whole.ensures.0, c.integer_word.ensures, to_z-of_z c.ranges.x)
