-- Rows that are marked by 1, and arrays by the id of a row. What stands past the end of an array is 0.
use Rattle.std.specs.Prelude.{ℕ, Bool, cond, ◌&&◌, List, eqb, get_or, set}

-- row i is marked and has this id
unfoldable pub has_id : (marks ids : List ℕ) → (id i : ℕ) → Bool
has_id marks ids id i = eqb (get_or ids i 0) id && eqb (get_or marks i 0) 1

-- a number put under the id of a marked row
unfoldable pub put_marked : (mark id x : ℕ) → List ℕ → List ℕ
put_marked mark id x xs = cond (eqb mark 1) (set xs id x) xs

-- what stands under the id of row i
abbrev pub under : (xs ids : List ℕ) → ℕ → ℕ
under xs ids i = get_or xs (get_or ids i 0) 0
