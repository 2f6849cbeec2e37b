-- `numbers::after_hex_mark` meets its contract: a mark alone is no number, and after it stand digits of base 16.
use mathlib.Core.Path.{sym, ◌∙◌}
use Rattle.numbers.specs.Number.{hex_mark, meaning, answer_of}
use Rattle.numbers.proofs.Firsts.{no_first, first_alike, hex_digit_lem}
use Rattle.numbers.proofs.after_hex_mark.Goals as goal

pub returns-then-text-eq0 : goal.returns-then-text-eq0
unfolding meaning answer_of
returns-then-text-eq0 c = sym (no_first hex_mark _ c.if-text-eq0.true)

pub returns : goal.returns
returns c = c.read_digits.ensures ∙ sym (first_alike hex_mark _ _ c.if-text-eq0.false (hex_digit_lem _))
