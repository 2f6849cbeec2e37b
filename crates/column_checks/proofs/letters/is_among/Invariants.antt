-- The byte is among the letters left exactly where it is among all.
use Prim.Native.Nat.{◌≤◌}
use mathlib.Core.Path.{◌≡◌}
use lib.Seq.{slice}
use Rattle.column_checks.specs.ColumnReasons.{is_in}
use Rattle.column_checks.specs.ColumnKinds.{all_letters}
use Rattle.column_checks.proofs.letters.is_among.Given as goal

abbrev pub invariant-loop-i : goal.invariant-loop-i
invariant-loop-i l = (l.i ≤ l.end) × (l.end ≤ 29) × (is_in l.b (slice l.i l.end all_letters) ≡ is_in l.b (slice l.start l.end all_letters))
