-- The invariant: the first i places are written.
use Rattle.laws.proofs.Values.{Writing}
use lib.ListN.{get_or}
use lib.Dec.{eqb}
use Rattle.laws.specs.Prefix.{flag}
use Rattle.chain_steps.proofs.mark_zeros.Given as goal

abbrev pub invariant-loop-i : goal.invariant-loop-i
invariant-loop-i l = Writing (λ k. flag (eqb (get_or l.cells k 0) 0)) l.n l.initial.zeros l.zeros l.i
