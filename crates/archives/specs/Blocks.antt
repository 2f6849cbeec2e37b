-- A block of an archive's bytes before and after it is read on: no byte is lost or doubled between two blocks.
use Rattle.std.specs.Prelude.{ℕ, ◌≤◌, ◌≡◌, List, ◌++◌, length, take, drop}
use Rattle.lines.specs.Columns.{part_of}

-- the bytes from one place to before another stand at the start, and behind them what stood there
pub record Moved (from to count : ℕ) (before after : List ℕ) : Type 0 where
  pub number : count ≡ length (part_of before from to)
  pub front : after ≡ part_of before from to ++ drop count before

-- they stand at the start, and the bytes that were read behind them, up to `end`
pub record Refilled (from to end : ℕ) (before after : List ℕ) : Type 0 where
  pub kept : take (length (part_of before from to)) after ≡ part_of before from to
  pub least : length (part_of before from to) ≤ end
  pub most : end ≤ length after
