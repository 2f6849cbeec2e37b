-- With the values left, the columns are as they were with all values stored.
use mathlib.Core.Path.{◌≡◌}
use Prim.Native.Nat.{◌≤◌}
use lib.ListN.{drop}
use Rattle.kept.specs.Puts.{put_columns}
use Rattle.kept.proofs.columns.put_bytes.Given as goal

abbrev pub invariant-loop-c : goal.invariant-loop-c
invariant-loop-c l = (l.c ≤ 5) × (put_columns l.c l.bytes l.i (drop l.c l.values) ≡ put_columns 0 l.initial.bytes l.i l.values)
