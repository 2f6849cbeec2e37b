-- The invariant: the lines before place a are stored, and line j starts there.
use Prim.Native.Nat.{◌-◌}
use lib.ListN.{length}
use Rattle.verdicts.specs.Entries.{carried_at}
use Rattle.kept.specs.FirstPass.{arrays}
use Rattle.kept.proofs.FirstPassLaws.{Walk}
use Rattle.kept.proofs.kept.keep_table.Given as goal

abbrev pub invariant-loop-a : goal.invariant-loop-a
invariant-loop-a l =
    Walk (arrays l.initial.words l.initial.links l.n l.initial.halves l.initial.bytes) (arrays l.words l.links l.count l.halves l.bytes) (carried_at l.t) l.t l.table l.from l.j l.a

abbrev pub decreases-loop-a : goal.decreases-loop-a
decreases-loop-a l = length l.table - l.a
