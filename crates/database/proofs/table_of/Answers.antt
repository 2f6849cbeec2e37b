-- The table of the row, by its number.
use mathlib.Core.Path.{◌∙◌, ap}
use mathlib.Core.List.{[], map}
use Prim.Native.Nat.{ℕ}
use lib.ListN.{get_or}
use Rattle.database.specs.Arrays.{row_at}
use Rattle.database.proofs.table_of.Goals as goal

pub returns : goal.returns
unfolding row_at
returns c = c.table_at.ensures ∙ ap (λ (t : ℕ). get_or (map (λ x. x.now) c.args.tables) t []) c.column_at.ensures.0
