-- The invariant: the first i places are written.
use Rattle.laws.proofs.Values.{Writing}
use Rattle.passes.specs.Marked.{under}
use Rattle.findings.specs.Found.{row_linked}
use Rattle.findings.proofs.find_rows.Given as goal

abbrev pub invariant-loop-i : goal.invariant-loop-i
invariant-loop-i l = Writing (λ k. row_linked (under l.holders l.names k)) l.n l.initial.found l.found l.i
