-- By the columns, and what each is.
use mathlib.Core.Path.{sym, ◌∙◌}
use Rattle.inside.proofs.InsideLaws.{pair_count, pair_first, pair_second, pair_both}
use Rattle.scripts.proofs.NumeralLaws.{most_is}
use Rattle.inside.proofs.inner.pair_of.Goals as goal

pub returns-then-column_count-ne2 : goal.returns-then-column_count-ne2
returns-then-column_count-ne2 c = (pair_count _ _ _ _ c.column_count.ensures c.if-column_count-ne2.true, tt)

pub returns-in_err-first : goal.returns-in_err-first
returns-in_err-first c = rw c.from_residual.ensures (
  pair_first _ _ _ c.column_count.result c.column_count.ensures c.if-column_count-ne2.false (sym c.natural_at.ensures ∙ c.in_err-first.was),
  tt,
)

pub returns-in_err-second : goal.returns-in_err-second
returns-in_err-second c = rw c.from_residual-in_err-second.ensures (
  pair_second _ _ _ c.column_count.result c.column_count.ensures _ c.if-column_count-ne2.false
      (sym c.natural_at.ensures ∙ c.in_ok-first.was) (sym c.natural_at-2.ensures ∙ c.in_err-second.was),
  tt,
)

pub returns : goal.returns
returns c = let a = sym c.natural_at.ensures ∙ c.in_ok-first.was in
    let b = sym c.natural_at-2.ensures ∙ c.in_ok-second.was in
    (pair_both _ _ _ c.column_count.result c.column_count.ensures _ _ c.if-column_count-ne2.false a b, (most_is _ _ _ a, most_is _ _ _ b))
