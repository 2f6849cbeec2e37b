-- The first entry, and what the comparison of another told.
use mathlib.Core.Path.{ap, sym, ◌∙◌}
use borrow.Author.Tests.{eq-eqb, ne_eqb}
use Rattle.packet_index.specs.Index.{is_before}
use Rattle.index_test.proofs.follows.Goals as goal

pub returns-then-i-eq0 : goal.returns-then-i-eq0
returns-then-i-eq0 c = simp (eq-eqb _ _ c.if-i-eq0.true)

pub returns-in-Before : goal.returns-in-Before
returns-in-Before c = simp (ne_eqb _ _ c.if-i-eq0.false) (ap is_before (sym c.in-Before.is ∙ c.compare-order.ensures))

pub returns-in-Same : goal.returns-in-Same
returns-in-Same c = simp (ne_eqb _ _ c.if-i-eq0.false) (ap is_before (sym c.in-Same.is ∙ c.compare-order.ensures))

pub returns-in-After : goal.returns-in-After
returns-in-After c = simp (ne_eqb _ _ c.if-i-eq0.false) (ap is_before (sym c.in-After.is ∙ c.compare-order.ensures))
