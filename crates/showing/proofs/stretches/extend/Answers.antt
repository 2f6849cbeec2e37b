-- The stretch goes on, or another begins.
use native.Mathlib.Omega.{arith}
use Rattle.showing.proofs.ShowLaws.{extended_none, extended_on, extended_new}
use Rattle.showing.proofs.stretches.extend.Goals as goal

pub returns-then-first-eq0 : goal.returns-then-first-eq0
returns-then-first-eq0 g c = extended_none _ _ c.if-first-eq0.true

pub returns-then-joins : goal.returns-then-joins
returns-then-joins g c = extended_on _ _ (λ e. omega arith) c.joins.ensures c.if-joins.true

pub returns : goal.returns
returns g c = extended_new _ _ (λ e. omega arith) c.joins.ensures c.if-joins.false
