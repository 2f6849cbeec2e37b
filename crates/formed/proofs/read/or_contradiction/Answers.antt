-- Each test is a case of the definition.
use mathlib.Core.Path.{◌∙◌}
use Rattle.formed.proofs.FormedLaws.{shaped_first, none, eight}
use Rattle.formed.proofs.read.or_contradiction.Goals as goal

pub returns-then-shaped-ne0 : goal.returns-then-shaped-ne0
returns-then-shaped-ne0 c = shaped_first _ _ c.if-shaped-ne0.true

pub returns-then-column-eq0 : goal.returns-then-column-eq0
returns-then-column-eq0 c = none _ _ c.if-shaped-ne0.false c.if-column-eq0.true

pub returns : goal.returns
returns c = c.verdict_of.ensures ∙ eight _ _ c.if-shaped-ne0.false c.if-column-eq0.false
