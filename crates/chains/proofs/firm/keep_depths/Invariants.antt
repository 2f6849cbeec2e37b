-- The invariant: the depths kept are depths of firm chains, and what is left of this one is firm.
use mathlib.Core.Path.{◌≡◌}
use mathlib.Core.Bool.{true}
use Rattle.chain_steps.specs.Chains.{firm_from}
use Rattle.chains.specs.Courses.{KnownDepths}
use Rattle.chains.proofs.firm.keep_depths.Given as goal

abbrev pub invariant-loop-left : goal.invariant-loop-left
invariant-loop-left l = KnownDepths l.next l.firm l.depths × ((l.left ≡ 0 → ⊥) → firm_from l.next l.firm l.left l.at ≡ true)

abbrev pub decreases-loop-left : goal.decreases-loop-left
decreases-loop-left l = l.left
