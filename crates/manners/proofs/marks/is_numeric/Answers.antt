-- A whole number of category N.
use mathlib.Core.Path.{sym, ◌∙◌}
use Rattle.verdicts.specs.Facts.{pcf_facts}
use Rattle.manners.proofs.marks.is_numeric.Goals as goal

pub returns-in-Numeric : goal.returns-in-Numeric
unfolding pcf_facts
returns-in-Numeric c = rw (c.in-Numeric.is, sym c.is_whole.ensures ∙ c.if-is_whole.true)

pub returns-in-Status : goal.returns-in-Status
unfolding pcf_facts
returns-in-Status c = rw (c.in-Status.is, sym c.is_whole.ensures ∙ c.if-is_whole.true)

pub returns-in-Text : goal.returns-in-Text
unfolding pcf_facts
returns-in-Text c = rw (c.in-Text.is, sym c.is_whole.ensures ∙ c.if-is_whole.true)

pub returns : goal.returns
unfolding pcf_facts
returns c = rw (sym c.is_whole.ensures ∙ c.if-is_whole.false)
