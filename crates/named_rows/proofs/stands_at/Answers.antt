-- The column of the naming's code.
use mathlib.Core.Path.{ap, ◌∙◌}
use Prim.Native.Nat.{ℕ}
use lib.Dec.{eqb}
use Rattle.manners.specs.Manners.{manner_at}
use Rattle.named_rows.proofs.stands_at.Goals as goal

pub returns : goal.returns
returns c = ap (λ (n : ℕ). eqb n c.args.column)
    (c.naming_column.ensures ∙ ap (λ (k : ℕ). (manner_at k).column) c.byte.ensures)
