-- By the verdict.
use mathlib.Core.Path.{refl, ap, ◌∙◌}
use Rattle.tallies.proofs.TotalLaws.{tally_parts}
use lib.ListN.{set}
use Prim.Native.Nat.{ℕ}
use Rattle.tallies.specs.Totals.{plus, tally_after}
use Rattle.tallies.proofs.count.Goals as goal

abbrev one_more : ℕ → ℕ
one_more n = plus n 1

pub returns-in-Unread : goal.returns-in-Unread
unfolding tally_after
returns-in-Unread c = rw c.in-Unread.is (tally_parts refl refl c.plus.ensures)

pub returns-in-Same : goal.returns-in-Same
unfolding tally_after
returns-in-Same c = let sum = c.plus-in-Same.ensures ∙ ap one_more c.number_at-n.ensures in
    rw c.in-Same.is (tally_parts (c.keep_at.ensures ∙ ap (set c.args.tally.asked c.args.k) sum) refl refl)

pub returns-in-Differs : goal.returns-in-Differs
unfolding tally_after
returns-in-Differs c = let sum = c.plus-in-Differs.ensures ∙ ap one_more c.number_at-n-in-Differs.ensures in
    rw c.in-Differs.is (tally_parts (c.keep_at-in-Differs.ensures ∙ ap (set c.args.tally.asked c.args.k) sum) c.plus-in-Differs-2.ensures refl)
