-- The invariant: the line feeds counted and those left are all.
use Prim.Native.Nat.{◌+◌, ◌≤◌}
use mathlib.Core.Path.{◌≡◌}
use lib.ListN.{length, drop}
use Rattle.tables.specs.Sizes.{feeds}
use Rattle.tables.proofs.feeds_in.Given as goal

abbrev pub invariant-loop-i : goal.invariant-loop-i
invariant-loop-i l = (l.i ≤ length l.block) × (l.n ≤ l.i) × (l.n + feeds (drop l.i l.block) ≡ feeds l.block)
