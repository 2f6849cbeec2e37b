-- How many rows have an id.
use Rattle.std.specs.Prelude.{ℕ, ◌+◌, ◌<◌, min, ◌≡◌, List, length, get_or}
use Rattle.laws.specs.Prefix.{count_with}
use Rattle.passes.specs.Marked.{has_id}

-- each counter has gone up by how many of the first n rows are marked and have its id; one stops at 65,535
pub record Counted (marks ids before after : List ℕ) (n : ℕ) : Type 0 where
  pub size : length after ≡ length before
  pub at : (id : ℕ) → id < length before → get_or after id 0 ≡ min (get_or before id 0 + count_with (has_id marks ids id) n) 65535
