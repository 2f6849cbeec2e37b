-- The last byte tells, where there is one.
use native.Mathlib.Omega.{arith}
use Rattle.tables.proofs.SizeLaws.{last_tells, whole_none}
use Rattle.tables.proofs.is_whole.Goals as goal

pub returns-then-table-eq0 : goal.returns-then-table-eq0
returns-then-table-eq0 c = whole_none _ c.if-table-eq0.true

pub returns : goal.returns
returns c = last_tells _ _ (omega arith)
