-- Rows chained by the id of their group.
use Rattle.std.specs.Prelude.{ℕ, zero, suc, ◌+◌, ◌-◌, ◌≤◌, ◌<◌, ◌≡◌, cond, List, [], ◌∷◌, eqb, ltb, length, get_or}
use Rattle.laws.specs.Prefix.{first_from}
use Rattle.passes.specs.Marked.{has_id}

-- one more than the first marked row with this id from row lo to before row n, or else what the array had for the id
unfoldable pub first_row : (marks ids firsts : List ℕ) → (id lo n : ℕ) → ℕ
first_row marks ids firsts id lo n = cond (ltb id (length firsts)) (first_from (has_id marks ids id) (get_or firsts id 0) lo (n - lo)) 0

-- the rows from row i to before row n are chained: each id leads to its first row, and each row to the next with its id
pub record Chained (marks ids firsts₀ nexts₀ firsts nexts : List ℕ) (i n : ℕ) : Type 0 where
  pub within : i ≤ n
  pub first_size : length firsts ≡ length firsts₀
  pub next_size : length nexts ≡ length nexts₀
  pub first : (id : ℕ) → get_or firsts id 0 ≡ first_row marks ids firsts₀ id i n
  pub next : (j : ℕ) → i ≤ j → j < n → j < length nexts₀ → get_or nexts j 0 ≡ first_row marks ids firsts₀ (get_or ids j 0) (j + 1) n
  pub rest : (j : ℕ) → n ≤ j → get_or nexts j 0 ≡ get_or nexts₀ j 0

-- what following the links from `at` on meets, in at most so many steps: see `group_rows`
unfoldable pub chain : List ℕ → (steps at : ℕ) → List ℕ
chain nexts zero at = []
chain nexts (suc steps) at = cond (eqb at 0) [] ((at - 1) ∷ chain nexts steps (get_or nexts (at - 1) 0))
