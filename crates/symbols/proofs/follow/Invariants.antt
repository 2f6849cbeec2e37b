-- The invariant: from here on the links lead where they led at first.
use mathlib.Core.Path.{◌≡◌}
use Rattle.symbols.specs.Searches.{follow, followed}
use Rattle.symbols.proofs.follow.Given as goal

abbrev pub invariant-loop-steps : goal.invariant-loop-steps
invariant-loop-steps l = follow l.words l.links l.k l.steps l.trail l.place ≡ followed l.words l.links l.k

abbrev pub decreases-loop-steps : goal.decreases-loop-steps
decreases-loop-steps l = l.steps
