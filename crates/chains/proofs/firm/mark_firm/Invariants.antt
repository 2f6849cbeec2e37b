-- The invariant: the first i marks are written, and the depths kept are depths of firm chains.
use Rattle.laws.specs.Prefix.{flag}
use Rattle.laws.proofs.Values.{Writing}
use Rattle.chain_steps.specs.Chains.{firm_from}
use Rattle.chains.specs.Courses.{KnownDepths}
use Rattle.chains.proofs.firm.mark_firm.Given as goal

abbrev pub invariant-loop-i : goal.invariant-loop-i
invariant-loop-i l = Writing
    (λ k. flag (firm_from l.next l.firm l.within k)) l.n l.initial.chains l.chains l.i × KnownDepths l.next l.firm l.depths
