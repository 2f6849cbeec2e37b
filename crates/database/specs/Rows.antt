-- Rows, and what the questions of packets ask of the tables.
use Rattle.std.specs.Prelude.{ℕ, List}
use Rattle.std.proofs.Math.Option.{Option}
use Rattle.verdicts.specs.Key.{Key}

-- a row by the number of its table, from 0, its own number, from 1, the byte of its table at which its line starts,
-- and the line's bytes
pub record Row : Type 0 where
  pub table : ℕ
  pub number : ℕ
  pub start : ℕ
  pub bytes : List ℕ

-- all that the questions of packets ask of the tables
pub record Rows : Type 0 where
  -- the good row that holds a key. 01's reason 9: no two good rows hold the same one
  pub holder : Key → Option Row
  -- the good rows that are counted in a group, in table order: a curve's points, the ranges of texts,
  -- a parameter's checks
  pub members : Key → List Row
  -- the good VALID Y pid row of this number. 02, P4: "pid row numbers"
  pub numbered : ℕ → Option Row
