-- The invariant: what is left from here on has the column at its place less the columns passed.
use mathlib.Core.Path.{◌≡◌}
use Prim.Native.Nat.{◌-◌, ◌≤◌}
use lib.ListN.{length, drop}
use Rattle.lines.specs.Columns.{columns_of, column_at}
use Rattle.scripts.proofs.operands.column_at.Given as goal

abbrev pub invariant-loop-i : goal.invariant-loop-i
invariant-loop-i l = (l.start ≤ length l.text) × (l.i ≤ l.k) × (column_at (columns_of (drop l.start l.text)) (l.k - l.i) ≡ column_at (columns_of l.text) l.k)
