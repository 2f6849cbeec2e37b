-- With the values left, the columns are as they were with all values stored.
use mathlib.Core.Path.{◌≡◌}
use Prim.Native.Nat.{◌≤◌}
use lib.ListN.{drop}
use Rattle.kept.specs.Puts.{put_columns}
use Rattle.kept.proofs.columns.put_halves.Given as goal

abbrev pub invariant-loop-c : goal.invariant-loop-c
invariant-loop-c l = (l.c ≤ 8) × (put_columns l.c l.halves l.i (drop l.c l.values) ≡ put_columns 0 l.initial.halves l.i l.values)
