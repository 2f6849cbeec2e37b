-- Sixteen digits after the words.
use mathlib.Core.Path.{◌∙◌}
use mathlib.Core.List.{[]}
use native.Mathlib.Omega.{arith}
use Rattle.hex_answers.proofs.HexLaws.{digits_long, bits_said}
use Rattle.hex_answers.proofs.say_bits.Goals as goal

pub slice_bounds-says-end : goal.slice_bounds-says-end
slice_bounds-says-end c = omega (arith, digits_long _ [] _ c.spell_hex.ensures)

pub returns : goal.returns
returns c = c.says.ensures ∙ bits_said [] _ _ _ _ c.spell_hex.ensures c.one.ensures
