-- The database: tables in lent arrays, in which a row is found by its key, and rows are followed by their group. What
-- they answer, whatever they hold; that after loading they answer what the tables do is a law of `loading`.
use Rattle.std.specs.Prelude.{ℕ, ◌+◌, ◌-◌, cond, not, ◌&&◌, ◌≡◌, refl, List, [], ◌∷◌, map, eqb, ltb, get_or, drop}
use Rattle.std.proofs.Math.Option.{Option, none, some}
use Rattle.arrays.specs.Room.{most_places}
use Rattle.symbols.specs.Arrays.{most_symbols}
use Rattle.lines.specs.Lines.{line_length, line_from}
use Rattle.symbols.specs.declared.Symbol.{Symbol}
use Rattle.symbols.specs.Searches.{found}
use Rattle.passes.specs.Groups.{chain}
use Rattle.verdicts.specs.Key.{Key}
use Rattle.verdicts.specs.Places.{text_at}
use Rattle.verdicts.specs.Answer.{most_rows}
use Rattle.key_symbols.specs.Keyed.{symbol_of}
use Rattle.key_symbols.specs.Bounded.{key_fits, packet_of}
use Rattle.database.specs.Rows.{Row, Rows}
use Rattle.database.specs.Packets.{numbers_in}

-- the bytes of the tables, the symbols of keys with the links that lead to them, and columns of numbers
pub record Database : Type 0 where
  pub texts : List (List ℕ)
  pub words : List ℕ
  pub links : List ℕ
  pub columns : List ℕ

abbrev pub database : (texts : List (List ℕ)) → (words links columns : List ℕ) → Database
database texts words links columns = record { texts = texts; words = words; links = links; columns = columns }

-- a column of keys has a place for each symbol, and a column of rows one for each row.
-- Where the columns of keys start: one more than the good row that holds the key,
-- and than the first row of the group that goes by it
abbrev pub holder_column : ℕ
holder_column = 0

abbrev pub first_column : ℕ
first_column = holder_column + most_symbols

-- and those of rows: one more than the next row of the same group, the row's number, its table,
-- and where its line starts
abbrev pub next_column : ℕ
next_column = first_column + most_symbols

abbrev pub number_column : ℕ
number_column = next_column + most_places

abbrev pub table_column : ℕ
table_column = number_column + most_places

abbrev pub start_column : ℕ
start_column = table_column + most_places

abbrev pub all_columns : ℕ
all_columns = start_column + most_places

-- row i, from 0
unfoldable pub row_at : (texts : List (List ℕ)) → (columns : List ℕ) → ℕ → Row
row_at texts columns i =
    let table : ℕ = get_or columns (table_column + i) 0 in
    let start : ℕ = get_or columns (start_column + i) 0 in
    record { table = table; number = get_or columns (number_column + i) 0; start = start; bytes = (line_from (text_at texts table) start).bytes }

-- the row that a number one more than its place leads to
unfoldable pub row_for : (texts : List (List ℕ)) → (columns : List ℕ) → ℕ → Option Row
row_for texts columns at = cond (eqb at 0) none (some (row_at texts columns (at - 1)))

-- what a column of keys says of a symbol; 0 of one that isn't there
unfoldable pub keyed : (words links columns : List ℕ) → (column : ℕ) → Symbol → ℕ
keyed words links columns column k = let id : ℕ = found words links k in cond (ltb id most_symbols) (get_or columns (column + id) 0) 0

-- the same of a key; 0 of one that no row can hold
unfoldable pub keyed_by : (words links columns : List ℕ) → (column : ℕ) → Key → ℕ
keyed_by words links columns column k = cond (key_fits k) (keyed words links columns column (symbol_of k)) 0

-- a group has at most as many rows as a table
abbrev pub most_members : ℕ
most_members = most_rows

-- the places of the rows of a group from its first on, as each leads to the next
unfoldable pub group_places : (columns : List ℕ) → ℕ → List ℕ
group_places columns first = chain (drop next_column columns) most_members first

-- the row after number − 1 others, if it has that number and the database gives it for its own five numbers
unfoldable pub packet_at : Database → (number : ℕ) → Option Row
packet_at d number =
    let row : Row = row_at d.texts d.columns (number - 1) in
    let held : ℕ = keyed_by d.words d.links d.columns holder_column (packet_of (numbers_in row)) in
    cond (not (eqb number 0) && (eqb row.number number && eqb held number)) (some row) none

-- what the database answers
unfoldable pub answers : Database → Rows
answers d =
    record {
      holder = λ key. row_for d.texts d.columns (keyed_by d.words d.links d.columns holder_column key);
      members = λ group. map (row_at d.texts d.columns) (group_places d.columns (keyed_by d.words d.links d.columns first_column group));
      numbered = packet_at d;
    }

-- one row in table 0 and none else: the text has the row of its columns
example : row_at ((65 ∷ 66 ∷ 10 ∷ []) ∷ []) [] 0 ≡ record { table = 0; number = 0; start = 0; bytes = 65 ∷ 66 ∷ [] }
unfolding row_at line_from line_length
example = refl
