-- The kind of a row is in its columns.
use mathlib.Core.Path.{◌≡◌, sym, ◌∙◌}
use mathlib.Core.Bool.{Bool}
use mathlib.Core.List.{List, []}
use Prim.Native.Nat.{ℕ}
use Rattle.database.specs.Kinds.{is_polynomial}
use Rattle.database.specs.Arrays.{row_at}

-- of any texts, by what `is_polynomial` answers
pub kind_is : (texts : List (List ℕ)) (columns : List ℕ) (i : ℕ) {kind b : Bool} → kind ≡ is_polynomial (row_at [] columns i) → kind ≡ b
    → is_polynomial (row_at texts columns i) ≡ b
unfolding is_polynomial row_at
kind_is texts columns i e q = sym e ∙ q
