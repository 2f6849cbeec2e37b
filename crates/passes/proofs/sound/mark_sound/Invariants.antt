-- The invariant: the rows passed are marked.
use Prim.Native.Nat.{◌≤◌}
use Rattle.passes.specs.Sound.{sound_at}
use Rattle.passes.specs.Holders.{Filled}
use Rattle.passes.proofs.sound.mark_sound.Given as goal

abbrev pub invariant-loop-i : goal.invariant-loop-i
invariant-loop-i l = (l.i ≤ l.n) × Filled (sound_at l.formed l.key1 l.key2 l.holders) l.initial.sound l.sound l.i
