-- The constants at k, or past the last the column that is 0 wide.
use native.Mathlib.Omega.{arith}
use Rattle.column_checks.specs.ColumnKinds.{kind_at}
use Rattle.schemas.proofs.PositionLaws.{code_here, code_past}
use Rattle.schemas.proofs.coded.code_at.Goals as goal

pub returns-then-k-widths : goal.returns-then-k-widths
returns-then-k-widths c = code_here _ _ _ c.requires _ (omega arith)

pub returns : goal.returns
unfolding kind_at
returns c = code_past _ _ _ c.requires _ (omega arith)
