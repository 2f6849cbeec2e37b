-- The values of a function at numbers in a row: what a loop that fills an array writes.
use Rattle.std.specs.Prelude.{ℕ, zero, suc, ◌+◌, List, [], ◌∷◌}

-- the values at n numbers from lo on
unfoldable pub tabulate : (ℕ → ℕ) → (lo n : ℕ) → List ℕ
tabulate f lo zero = []
tabulate f lo (suc n) = f lo ∷ tabulate f (lo + 1) n
