use Rattle.symbols.specs.Symbols.{same_symbol}
use borrow.Author.Tests.{eq-eqb, ne_eqb}
use Rattle.symbols.proofs.same.Goals as goal

pub returns-then-k-l-3 : goal.returns-then-k-l-3
unfolding same_symbol
returns-then-k-l-3 c = rw (
  eq-eqb _ _ c.if-k-l.true,
  eq-eqb _ _ c.if-k-l-2.true,
  eq-eqb _ _
      c.if-k-l-3.true,
)

pub returns-then-k-l-2 : goal.returns-then-k-l-2
unfolding same_symbol
returns-then-k-l-2 c = rw (
  eq-eqb _ _ c.if-k-l.true,
  eq-eqb _ _ c.if-k-l-2.true,
  ne_eqb _ _
      c.if-k-l-3.false,
)

pub returns-then-k-l : goal.returns-then-k-l
unfolding same_symbol
returns-then-k-l c = rw (eq-eqb _ _ c.if-k-l.true, ne_eqb _ _ c.if-k-l-2.false)

pub returns : goal.returns
unfolding same_symbol
returns c = rw (ne_eqb _ _ c.if-k-l.false)
