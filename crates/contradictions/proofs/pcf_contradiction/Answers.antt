-- The width, the category, then the curve.
use Rattle.contradictions.specs.Contradictions.{pcf_contradiction}
use Rattle.contradictions.proofs.pcf_contradiction.Goals as goal

pub returns-then-has_no_width : goal.returns-then-has_no_width
unfolding pcf_contradiction
returns-then-has_no_width c = rw (← c.has_no_width.ensures, c.if-has_no_width.true)

pub returns-then-category_clash : goal.returns-then-category_clash
unfolding pcf_contradiction
returns-then-category_clash c = rw (← c.has_no_width.ensures, c.if-has_no_width.false, ← c.category_clash.ensures, c.if-category_clash.true)

pub returns-then-curve_clash : goal.returns-then-curve_clash
unfolding pcf_contradiction
returns-then-curve_clash c = rw (
  ← c.has_no_width.ensures,
  c.if-has_no_width.false,
  ← c.category_clash.ensures,
  c.if-category_clash.false,
  ← c.curve_clash.ensures,
  c.if-curve_clash.true,
)

pub returns : goal.returns
unfolding pcf_contradiction
returns c = rw (
  ← c.has_no_width.ensures,
  c.if-has_no_width.false,
  ← c.category_clash.ensures,
  c.if-category_clash.false,
  ← c.curve_clash.ensures,
  c.if-curve_clash.false,
)
