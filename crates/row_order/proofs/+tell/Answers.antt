-- The row that a row names is told first, with one step less.
use mathlib.Core.Path.{sym, ◌∙◌}
use native.Mathlib.Omega.{arith}
use Rattle.row_order.proofs.TellLaws.{first_is_lem, first_row_lem, tells_none, tells_not, tells_last, tells_after}
use Rattle.row_order.proofs.+tell.Goals as goal

pub returns-then-steps-eq0 : goal.returns-then-steps-eq0
returns-then-steps-eq0 t c = tells_none _ _ _ _ _ _ _ _ c.if-steps-eq0.true

pub returns-then-not-is_due : goal.returns-then-not-is_due
returns-then-not-is_due t c = tells_not _ _ _ _ _ _ _ _ c.requires.0 _ c.is_due.ensures c.if-not-is_due.true

pub tell-end-requires : goal.tell-end-requires
tell-end-requires t c = (
  omega (arith, c.decreases, c.if-steps-eq0.false),
  (first_row_lem _ _ _ c.next_cause.ensures _ c.in-Some.is, omega (arith, c.put_byte.auto.bytes, c.requires.1), omega (arith, c.requires.2)),
)

pub returns-in-Some : goal.returns-in-Some
returns-in-Some t c =
    tells_after _ _ _ _ _ _ _ _ c.requires.0 _ c.is_due.ensures c.if-not-is_due.false c.if-steps-eq0.false c.requires.1
    _ c.put_byte.ensures _ (sym c.in-Some.is ∙ first_is_lem _ _ _ c.next_cause.ensures) _ _ _ c.tell-end.ensures
    _ c.put_row.ensures.1 _ c.put_row.ensures.0

pub returns-in-None : goal.returns-in-None
returns-in-None t c =
    tells_last _ _ _ _ _ _ _ _ c.requires.0 _ c.is_due.ensures c.if-not-is_due.false c.if-steps-eq0.false c.requires.1
    _ c.put_byte.ensures (sym c.in-None.is ∙ first_is_lem _ _ _ c.next_cause.ensures)
    _ c.put_row-in-None.ensures.1 _ c.put_row-in-None.ensures.0
