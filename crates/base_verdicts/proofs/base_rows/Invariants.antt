-- The invariant: the first i places are written.
use Rattle.laws.proofs.Values.{Writing}
use lib.ListN.{get_or}
use Rattle.base_verdicts.specs.Judged.{base_of}
use Rattle.base_verdicts.proofs.base_rows.Given as goal

abbrev pub invariant-loop-i : goal.invariant-loop-i
invariant-loop-i l = Writing (λ k. base_of (get_or l.own k 0) (get_or l.sound k 0) (get_or l.counts k 0) (get_or l.circles k 0)) l.n l.initial.base l.base l.i
