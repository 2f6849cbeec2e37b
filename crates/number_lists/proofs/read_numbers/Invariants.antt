-- The invariant: the numbers that are written and those still to be read are the numbers of the columns.
use Prim.Native.Nat.{◌≤◌}
use mathlib.Core.Path.{◌≡◌}
use lib.ListN.{length, take, drop}
use Rattle.lines.specs.Columns.{columns_of}
use Rattle.number_lists.specs.Lists.{row_numbers_in}
use Rattle.escapes.proofs.EscapeLaws.{joined}
use Rattle.number_lists.proofs.read_numbers.Given as goal

abbrev pub invariant-loop-k : goal.invariant-loop-k
invariant-loop-k l = (l.k ≤ l.count) × (length l.out ≡ length l.initial.out) × (l.count ≡ length (columns_of l.text)) × (l.count ≤ length l.initial.out)
    × (joined (take l.k l.out) (row_numbers_in (drop l.k (columns_of l.text))) ≡ row_numbers_in (columns_of l.text))
