-- By what was read.
use Rattle.base_verdicts.proofs.StepLaws.{base_own, base_shared, base_count, base_circle, base_none}
use Rattle.base_verdicts.proofs.base_of.Goals as goal

pub returns-then-own-ne0 : goal.returns-then-own-ne0
returns-then-own-ne0 c = base_own _ _ _ _ c.if-own-ne0.true

pub returns-then-sound-ne1 : goal.returns-then-sound-ne1
returns-then-sound-ne1 c = base_shared _ _ _ _ c.if-own-ne0.false c.if-sound-ne1.true

pub returns-then-count-ne0 : goal.returns-then-count-ne0
returns-then-count-ne0 c = base_count _ _ _ _ c.if-own-ne0.false c.if-sound-ne1.false c.if-count-ne0.true

pub returns-then-circle-eq1 : goal.returns-then-circle-eq1
returns-then-circle-eq1 c = base_circle _ _ _ _ c.if-own-ne0.false c.if-sound-ne1.false c.if-count-ne0.false c.if-circle-eq1.true

pub returns : goal.returns
returns c = base_none _ _ _ _ c.if-own-ne0.false c.if-sound-ne1.false c.if-count-ne0.false c.if-circle-eq1.false
