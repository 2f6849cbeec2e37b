-- The invariant: the values passed are written.
use mathlib.Core.Path.{◌≡◌}
use Prim.Native.Nat.{◌≤◌}
use lib.ListN.{take}
use Rattle.telling.specs.Answers.{written}
use Rattle.telling.proofs.deliver.write.Given as goal

abbrev pub invariant-loop-i : goal.invariant-loop-i
invariant-loop-i l = (l.i ≤ 8) × (l.i ≤ l.n) × (l.answer ≡ written l.initial.answer (take l.i l.these))
