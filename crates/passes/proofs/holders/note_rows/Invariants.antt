-- The invariant: the rows passed are noted.
use Prim.Native.Nat.{◌≤◌, min}
use mathlib.Core.Path.{◌≡◌}
use Rattle.passes.specs.Holders.{Noted}
use Rattle.passes.proofs.holders.note_rows.Given as goal

abbrev pub invariant-loop-i : goal.invariant-loop-i
invariant-loop-i l = (l.i ≤ l.most) × (l.most ≡ min l.n 65535) × Noted l.marks l.ids l.initial.rows l.rows l.i
