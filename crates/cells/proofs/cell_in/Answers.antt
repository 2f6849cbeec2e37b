-- By three tests.
use native.Mathlib.Omega.{arith}
use Rattle.cells.proofs.CellLaws.{in_none, in_some}
use Rattle.cells.proofs.cell_in.Goals as goal

pub returns-then-r-eq0 : goal.returns-then-r-eq0
returns-then-r-eq0 c = in_none _ _ (λ h k. omega arith)

pub returns-then-end-start : goal.returns-then-end-start
returns-then-end-start c = in_none _ _ (λ h k. omega arith)

pub returns-then-end-start-2 : goal.returns-then-end-start-2
returns-then-end-start-2 c = in_none _ _ (λ h k. omega arith)

pub returns : goal.returns
returns c = in_some _ _ (omega arith) (omega arith)
