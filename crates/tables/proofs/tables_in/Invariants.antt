-- The invariant: the first t slices are the first t tables.
use Prim.Native.Nat.{◌-◌, ◌≤◌}
use mathlib.Core.Path.{◌≡◌}
use lib.ListN.{length}
use Rattle.verdicts.specs.Entries.{table_count}
use Rattle.tables.specs.Parts.{table_in}
use Rattle.tables.proofs.PartLaws.{Filled}
use Rattle.tables.proofs.tables_in.Given as goal

abbrev pub invariant-loop-t : goal.invariant-loop-t
invariant-loop-t l = (l.t ≤ table_count) × (length l.tables ≡ table_count) × Filled (table_in l.space l.ends) 0 l.t l.tables

abbrev pub decreases-loop-t : goal.decreases-loop-t
decreases-loop-t l = table_count - l.t
