-- The invariant: the first i places are written.
use Rattle.laws.proofs.Values.{Writing}
use lib.ListN.{get_or}
use Rattle.chain_steps.specs.Chains.{no_row}
use Rattle.base_verdicts.specs.Judged.{next_of}
use Rattle.base_verdicts.proofs.next_rows.Given as goal

abbrev pub invariant-loop-i : goal.invariant-loop-i
invariant-loop-i l = Writing (λ k. next_of l.sound (get_or l.codes k 0) (get_or l.found k no_row)) l.n l.initial.next l.next l.i
