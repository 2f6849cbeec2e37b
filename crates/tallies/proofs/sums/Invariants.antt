-- The invariant: the sums of the first k kinds are written.
use Prim.Native.Nat.{ℕ}
use mathlib.Core.List.{List}
use lib.ListN.{get_or}
use Rattle.laws.proofs.Values.{Writing}
use Rattle.scripts.specs.Words.{question_count}
use Rattle.tallies.specs.Totals.{plus}
use Rattle.tallies.proofs.sums.Given as goal

abbrev pub sum_at : (a b : List ℕ) → ℕ → ℕ
sum_at a b k = plus (get_or a k 0) (get_or b k 0)

abbrev pub invariant-loop-k : goal.invariant-loop-k
invariant-loop-k l = Writing (sum_at l.a l.b) question_count l.initial.asked l.asked l.k
