-- The invariant: the tables left give the place that all give.
use mathlib.Core.List.{map}
use lib.ListN.{length, drop}
use Prim.Native.Nat.{◌+◌, ◌≤◌}
use mathlib.Core.Path.{◌≡◌}
use mathlib.Core.List.{map}
use lib.Dec.{ltb}
use lib.ListN.{length, drop}
use Rattle.verdicts.specs.Answer.{first_table, too_long}
use Rattle.verdicts.specs.Entries.{table_count}
use Rattle.tables.proofs.too_long.Given as goal

abbrev pub invariant-loop-t : goal.invariant-loop-t
invariant-loop-t l = (l.t ≤ table_count) × (first_table (λ text. ltb 65536 (length text)) (l.t + 1) (drop l.t (map (λ x. x.now) l.tables)) ≡ too_long (map (λ x. x.now) l.tables))
