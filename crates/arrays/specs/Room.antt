-- The room that arrays have.
use Rattle.std.specs.Prelude.{ℕ}

-- arrays by row have a place for each row of fourteen tables of 1,024 rows
abbrev pub most_places : ℕ
most_places = 14336
