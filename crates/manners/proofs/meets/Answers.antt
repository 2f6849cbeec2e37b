-- The mark of the weight; nothing has weight 0.
use native.Mathlib.Nat.{div-zero}
use borrow.Author.Rules.{rules}
use Rattle.manners.specs.Manners.{is_met_by}
use Rattle.manners.proofs.meets.Goals as goal

pub returns-then-weight-eq0 : goal.returns-then-weight-eq0
unfolding is_met_by
returns-then-weight-eq0 c = rw (c.if-weight-eq0.true, div-zero)

pub returns : goal.returns
unfolding is_met_by
returns c = search rules
