use mathlib.Core.Path.{◌≡◌, refl, sym, ◌∙◌, ap}
use native.Mathlib.Omega.{arith}
use lib.ListN.{take, length-set}
use Rattle.lines.specs.Columns.{columns_of}
use Rattle.escapes.specs.Escapes.{read_in}
use Rattle.escapes.proofs.EscapeLaws.{joined, joined_first, joined_more, joined_end, joined_none}
use Rattle.number_lists.proofs.ListLaws.{number_here, number_none, numbers_end, entries_fit, entries_not}
use Rattle.scripts.proofs.NumeralLaws.{most_is}
use Rattle.number_lists.proofs.read_numbers.Goals as goal

pub returns-then-out-count : goal.returns-then-out-count
unfolding read_in
returns-then-out-count c = record { out_after = sym (entries_not _ _ _ (omega (arith, c.column_count-count.ensures))); no_more_than = tt }

pub loop-k-init : goal.loop-k-init
loop-k-init c = (omega arith, refl, c.column_count-count.ensures, omega arith, joined_first _)

pub returns-in_err-row-clause-out_after : goal.returns-in_err-row-clause-out_after
unfolding read_in
returns-in_err-row-clause-out_after c = let columns = columns_of c.args.text.now in
    let unread = number_none columns c.loop-k.k (omega arith) (sym c.natural_at.ensures ∙ c.in_err-row.was) in
    rw c.from_residual.ensures (sym (entries_fit _ columns _ (omega arith) ∙ sym c.loop-k.invariant.4 ∙ joined_none _ unread))

pub returns-in_err-row-clause-no_more_than : goal.returns-in_err-row-clause-no_more_than
returns-in_err-row-clause-no_more_than c = rw c.from_residual.ensures tt

pub overflow_cast-out : goal.overflow_cast-out
overflow_cast-out c = omega (arith, most_is 65535 _ _ (sym c.natural_at.ensures ∙ c.in_ok-row.was))

pub loop-k-preserved : goal.loop-k-preserved
loop-k-preserved c = let columns = columns_of c.args.text.now in
    let here = number_here columns c.loop-k.k _ (omega arith) (sym c.natural_at.ensures ∙ c.in_ok-row.was) in (
      omega arith,
      simp length-set c.loop-k.invariant.1,
      c.loop-k.invariant.2,
      c.loop-k.invariant.3,
      sym (joined_more c.loop-k.out c.loop-k.k _ _ (omega arith)) ∙ ap (joined (take c.loop-k.k c.loop-k.out)) (sym here) ∙ c.loop-k.invariant.4,
    )

pub returns : goal.returns
unfolding read_in
returns c = let columns = columns_of c.args.text.now in
    let k : c.loop-k.k ≡ c.column_count-count.result = omega arith in record { out_after = rw (← k) (sym (joined_end (take c.loop-k.k c.loop-k.out) (numbers_end columns c.loop-k.k (omega arith))) ∙ c.loop-k.invariant.4 ∙ sym (entries_fit _ columns _ (omega arith))); no_more_than = omega arith }
