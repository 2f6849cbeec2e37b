-- By the column.
use mathlib.Core.Path.{ap}
use Prim.Native.Nat.{ℕ}
use lib.Dec.{eqb}
use Rattle.database.specs.Arrays.{row_at}
use Rattle.database.specs.Kinds.{is_polynomial}
use Rattle.database.proofs.is_polynomial.Goals as goal

pub returns : goal.returns
unfolding is_polynomial row_at
returns c = ap (λ (n : ℕ). eqb n 10) c.column_at.ensures.0
