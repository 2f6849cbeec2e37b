-- The first byte, or 0.
use mathlib.Core.Path.{ap, ◌∙◌}
use Rattle.rows.specs.Values.{letter_of}
use Rattle.rows.proofs.ValueLaws.{letter_none, letter_first}
use Rattle.rows.proofs.at.letter_at.Goals as goal

pub returns-then-text-eq0 : goal.returns-then-text-eq0
returns-then-text-eq0 c = letter_none _ c.if-text-eq0.true ∙ ap letter_of c.column-text.ensures

pub returns : goal.returns
returns c = letter_first _ c.if-text-eq0.false ∙ ap letter_of c.column-text.ensures
