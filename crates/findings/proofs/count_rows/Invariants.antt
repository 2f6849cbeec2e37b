-- The invariant: the first i places are written.
use lib.ListN.{get_or}
use Rattle.laws.proofs.Values.{Writing}
use Rattle.passes.specs.Marked.{under}
use Rattle.findings.specs.Found.{count_finding}
use Rattle.findings.proofs.count_rows.Given as goal

abbrev pub invariant-loop-i : goal.invariant-loop-i
invariant-loop-i l = Writing
    (λ k. count_finding (get_or l.columns k 0) (get_or l.numbers k 0) (under l.tallies l.keys k)) l.n l.initial.counts l.counts l.i
