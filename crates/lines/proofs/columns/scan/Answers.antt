use mathlib.Core.Path.{sym, ◌∙◌}
use native.Mathlib.Omega.{arith}
use Rattle.laws.proofs.Cases.{false≢true}
use Rattle.lines.proofs.ScanLaws.{walk_start, walk_printable, walk_tab, walk_foreign, past, here, end_stored, end_scanned}
use borrow.Author.Rules.{rules}
use Rattle.lines.proofs.columns.scan.Goals as goal

pub loop-i-init : goal.loop-i-init
loop-i-init c = walk_start _ _ _ _

pub loop-i-preserved-then-is_printable : goal.loop-i-preserved-then-is_printable
loop-i-preserved-then-is_printable c = let l = c.loop-i in
    walk_printable _ _ _ _ _ _ _ _ l.invariant (search rules) (sym c.is_printable.ensures ∙ c.if-is_printable.true)

pub overflow_sub-i : goal.overflow_sub-i
overflow_sub-i c = c.loop-i.invariant.after

pub overflow_add-count : goal.overflow_add-count
overflow_add-count c = let w = c.loop-i.invariant in omega (arith, w.few, w.room)

pub loop-i-preserved-then-b-eq-TAB : goal.loop-i-preserved-then-b-eq-TAB
loop-i-preserved-then-b-eq-TAB c = let l = c.loop-i in
    walk_tab _ _ _ _ _ _ _ _ l.invariant (search rules) (search rules) c.keep_at.ensures

pub overflow_sub-i-then-is_end : goal.overflow_sub-i-then-is_end
overflow_sub-i-then-is_end c = c.loop-i.invariant.after

pub overflow_add-count-then-is_end : goal.overflow_add-count-then-is_end
overflow_add-count-then-is_end c = let w = c.loop-i.invariant in omega (arith, w.few, w.room)

pub returns-then-is_end : goal.returns-then-is_end
returns-then-is_end c = let w = c.loop-i.invariant in
    let s = sym c.is_end.ensures ∙ c.if-is_end.true in record {
      value = c.closed.ensures ∙ end_scanned _ _ _ _ _ _ _ _ w (here (search rules) s);
      ends_after = end_stored _ _ _ _ _ _ _ _ w (here (search rules) s)
          c.keep_at-then-is_end.ensures;
    }

pub loop-i-preserved : goal.loop-i-preserved
loop-i-preserved c = let p = sym c.is_printable.ensures ∙ c.if-is_printable.false in
    walk_foreign _ _ _ _ _ _ _ _ c.loop-i.invariant (search rules)
    (λ s. false≢true (sym c.if-is_end.false ∙ c.is_end.ensures ∙ s)) c.if-b-eq-TAB.false p

pub overflow_sub-i-2 : goal.overflow_sub-i-2
overflow_sub-i-2 c = c.loop-i.invariant.after

pub overflow_add-count-2 : goal.overflow_add-count-2
overflow_add-count-2 c = let w = c.loop-i.invariant in omega (arith, w.few, w.room)

pub returns : goal.returns
returns c = let w = c.loop-i.invariant in record {
  value = c.closed-2.ensures ∙ end_scanned _ _ _ _ _ _ _ _ w (past (search rules));
  ends_after = end_stored _ _ _ _ _ _ _ _ w (past (search rules))
      c.keep_at-2.ensures;
}
