-- By the table's number, and the sizes of the tables.
use mathlib.Core.Path.{sym, ap, ◌∙◌}
use native.Mathlib.Omega.{arith}
use Rattle.tables.specs.Sizes.{said_sizes}
use Rattle.cells.proofs.CellLaws.{no_table, size_cells, fitting_cells}
use Rattle.cells.proofs.table_cells.Goals as goal

pub returns-then-n-eq0 : goal.returns-then-n-eq0
returns-then-n-eq0 c = c.none.ensures ∙ no_table _ _ (λ h k. omega arith)

pub returns-then-n-gt-TABLES : goal.returns-then-n-gt-TABLES
returns-then-n-gt-TABLES c = c.none-then-n-gt-TABLES.ensures ∙ no_table _ _ (λ h k. omega arith)

pub fitting-requires : goal.fitting-requires
fitting-requires c = (sym c.check_sizes.ensures ∙ ap said_sizes c.in-Ok.is, omega arith)

pub returns-in-Ok : goal.returns-in-Ok
returns-in-Ok c = let e = sym c.check_sizes.ensures ∙ ap said_sizes c.in-Ok.is in
    fitting_cells _ _ _ e (omega arith) (omega arith) c.fitting.ensures.start_value c.fitting.ensures.end_value

pub returns-in-Err : goal.returns-in-Err
returns-in-Err c = c.none-in-Err.ensures ∙ size_cells _ _ _ (sym c.check_sizes.ensures ∙ ap said_sizes c.in-Err.is)
