-- The tables' names are headings.
use Prim.Native.Nat.{◌≤◌}
use native.Mathlib.Omega.{arith}
use lib.ListN.{length}
use Rattle.lines.specs.Columns.{columns_of, columns_from}
use Rattle.table_names.specs.Headings.{table_names, table_name}
use Rattle.table_names.proofs.table_name.Goals as goal

few : length (columns_of table_names) ≤ 24
unfolding columns_of columns_from
few = omega arith

pub heading-requires : goal.heading-requires
heading-requires c = few

pub returns : goal.returns
unfolding table_name
returns c = c.heading.ensures
