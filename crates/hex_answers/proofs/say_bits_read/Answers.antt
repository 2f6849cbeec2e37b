-- Sixteen digits among the words, valid or not.
use mathlib.Core.Path.{◌∙◌}
use native.Mathlib.Omega.{arith}
use Rattle.laws.specs.Text.{ascii}
use Rattle.hex_answers.proofs.HexLaws.{digits_long, bits_said}
use Rattle.hex_answers.proofs.say_bits_read.Goals as goal

pub slice_bounds-says-end : goal.slice_bounds-says-end
slice_bounds-says-end c = omega (arith, digits_long _ (ascii ", valid") _ c.spell_hex.ensures)

pub returns-then-valid : goal.returns-then-valid
returns-then-valid c = rw c.if-valid.true
    (c.says.ensures ∙ bits_said (ascii ", valid") _ _ _ _ c.spell_hex.ensures c.one.ensures)

pub slice_bounds-says-end-2 : goal.slice_bounds-says-end-2
slice_bounds-says-end-2 c = omega (arith, digits_long _ (ascii ", invalid") _ c.spell_hex-2.ensures)

pub returns : goal.returns
returns c = rw c.if-valid.false
    (c.says-2.ensures ∙ bits_said (ascii ", invalid") _ _ _ _ c.spell_hex-2.ensures c.one-2.ensures)
