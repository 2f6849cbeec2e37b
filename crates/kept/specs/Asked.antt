-- How many new symbols the rows of a table ask for.
use Rattle.std.specs.Prelude.{ℕ, ◌+◌, ◌*◌, ◌≤◌, List, [], ◌∷◌}
use Rattle.arrays.specs.Room.{most_places}
use Rattle.symbols.specs.Arrays.{most_symbols}
use Rattle.schemas.specs.declared.Table.{Table}
use Rattle.schemas.specs.declared.Table.TheVariants.{Pid, Pic, Plf, Pcf, Caf, Cap, Txf, Txp, Ocf, Ocp, Mcf}
use Rattle.verdicts.specs.Entries.{carried, table_count}
use Rattle.verdicts.specs.Answer.{most_rows, most_cells}

-- at most so many for each row: its keys, and the keys that it names
unfoldable pub asks : Table → ℕ
asks Pid = 2
asks Pic = 1
asks Plf = 3
asks Pcf = 3
asks Caf = 1
asks Cap = 2
asks Txf = 1
asks Txp = 2
asks Ocf = 2
asks Ocp = 3
asks Mcf = 1

-- for a row of each of these tables
unfoldable pub asks_of : List Table → ℕ
asks_of [] = 0
asks_of (table ∷ tables) = asks table + asks_of tables

-- WHAT TIES THE ARRAYS TO THE TABLES: they have a place for each row of the tables carried, room for the symbols that
-- these rows ask for, and a byte for the number of each table
pub record Roomy : Type 0 where
  pub rows : most_cells ≤ most_places
  pub symbols : most_rows * asks_of carried ≤ most_symbols
  pub numbers : table_count ≤ 256
