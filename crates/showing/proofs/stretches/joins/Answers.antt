-- Number by number.
use native.Mathlib.Omega.{arith}
use Rattle.showing.proofs.ShowLaws.{joins_refusal, joins_place, joins_announced, joins_run}
use Rattle.showing.proofs.stretches.joins.Goals as goal

pub returns-then-last-next : goal.returns-then-last-next
returns-then-last-next c = joins_refusal _ _ (λ e. omega arith)

pub returns-then-last-next-2 : goal.returns-then-last-next-2
returns-then-last-next-2 c = joins_place _ _ (omega arith) (λ e. omega arith)

pub returns-then-last-next-3 : goal.returns-then-last-next-3
returns-then-last-next-3 c = joins_announced _ _ (omega arith) (omega arith) (λ e. omega arith)

pub returns : goal.returns
returns c = joins_run _ _ (omega arith) (omega arith) (omega arith)
