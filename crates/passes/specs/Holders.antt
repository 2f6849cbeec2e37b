-- Which row holds an id, and arrays that are filled row by row.
use Rattle.std.specs.Prelude.{ℕ, ◌<◌, ◌≡◌, cond, List, ltb, length, get_or}
use Rattle.laws.specs.Lists.{or_else}
use Rattle.laws.specs.Prefix.{last_with}
use Rattle.passes.specs.Marked.{has_id}

-- each id leads to one more than the last of the first n rows that is marked and has it; where there is none,
-- to what it led to
pub record Noted (marks ids before after : List ℕ) (n : ℕ) : Type 0 where
  pub size : length after ≡ length before
  pub at : (id : ℕ) → id < length before → get_or after id 0 ≡ or_else (last_with (has_id marks ids id) n) (get_or before id 0)

-- the first n places have the values of a function, and the others what they had
pub record Filled (f : ℕ → ℕ) (before after : List ℕ) (n : ℕ) : Type 0 where
  pub size : length after ≡ length before
  pub at : (i : ℕ) → i < length before → get_or after i 0 ≡ cond (ltb i n) (f i) (get_or before i 0)
