-- The tables in one space, each in its own part.
use Rattle.std.specs.Prelude.{ℕ, ◌*◌, ◌≡◌, refl, List, [], ◌∷◌, map, get_or, take}
use Rattle.laws.specs.Text.{ascii}
use Rattle.laws.specs.Values.{tabulate}
use Rattle.lines.specs.Columns.{part_of}
use Rattle.verdicts.specs.Entries.{table_count}

-- a part has one byte more than a table may have, so that a table that is too long is refused and not cut
abbrev pub part_size : ℕ
part_size = 65537

-- the table with this number, from 0, by where each ends in the space
unfoldable pub table_in : (space ends : List ℕ) → ℕ → List ℕ
table_in space ends t = part_of space (t * part_size) (get_or ends t 0)

unfoldable pub tables_in : (space ends : List ℕ) → List (List ℕ)
tables_in space ends = map (table_in space ends) (tabulate (λ t. t) 0 table_count)

-- a first table of two bytes, and no other
example : take 2 (tables_in (ascii "ABC") (2 ∷ 0 ∷ [])) ≡ ascii "AB" ∷ [] ∷ []
unfolding tables_in table_in tabulate
example = refl
