-- What is kept of the rows of the tables: arrays of columns with a place for each row, and the symbols of their keys.
use Rattle.std.specs.Prelude.{ℕ, ◌+◌, ◌*◌, ◌≤◌, ◌<◌, min, ◌≡◌, true, cond, List, eqb, length, get_or, Option, is_some}
use Rattle.arrays.specs.Room.{most_places}
use Rattle.symbols.specs.declared.Symbol.{Symbol}
use Rattle.symbols.specs.Symbols.{id_of, no_id}
use Rattle.symbols.specs.Arrays.{symbols, most_symbols}
use Rattle.symbols.specs.Searches.{Table}
use Rattle.verdicts.specs.Entries.{Entry, own, facts, bad}
use Rattle.keys.specs.Held.{keys_of}
use Rattle.row_keys.specs.declared.records.Named.{Named}
use Rattle.row_keys.specs.declared.records.RowKeys.{RowKeys}
use Rattle.row_keys.specs.Parts.{key_in}

-- place i of column c
abbrev pub at : List ℕ → (c i : ℕ) → ℕ
at columns c i = get_or columns (c * most_places + i) 0

-- the columns of numbers below 65,536, and those of numbers below 256
abbrev pub own_column : ℕ
own_column = 0

abbrev pub key1_column : ℕ
key1_column = 1

abbrev pub key2_column : ℕ
key2_column = 2

abbrev pub name1_column : ℕ
name1_column = 3

abbrev pub name2_column : ℕ
name2_column = 4

abbrev pub group_column : ℕ
group_column = 5

abbrev pub kept_number_column : ℕ
kept_number_column = 6

abbrev pub kept_start_column : ℕ
kept_start_column = 7

abbrev pub code1_column : ℕ
code1_column = 0

abbrev pub code2_column : ℕ
code2_column = 1

abbrev pub marks_column : ℕ
marks_column = 2

abbrev pub count_column : ℕ
count_column = 3

abbrev pub kept_table_column : ℕ
kept_table_column = 4

-- the id of a key that a row may hold, and of one that it may name
unfoldable pub slot_id : List Symbol → Option Symbol → ℕ
slot_id ls s = cond (is_some s) (id_of (key_in s) ls) no_id

unfoldable pub named_id : List Symbol → Named → ℕ
named_id ls n = cond (eqb n.code 0) no_id (id_of n.key ls)

-- row i has its own columns' verdict, the ids of what it holds, names and is counted in,
-- and the rest of its keys at its place
pub record StoredRow (ls : List Symbol) (r : RowKeys) (halves bytes : List ℕ) (i : ℕ) : Type 0 where
  pub own : at halves own_column i ≡ r.verdict
  pub key1 : at halves key1_column i ≡ slot_id ls r.first
  pub key2 : at halves key2_column i ≡ slot_id ls r.second
  pub name1 : at halves name1_column i ≡ named_id ls r.one
  pub name2 : at halves name2_column i ≡ named_id ls r.two
  pub group : at halves group_column i ≡ slot_id ls r.group
  pub number : at halves kept_number_column i ≡ min r.count.number 65535
  pub code1 : at bytes code1_column i ≡ r.one.code
  pub code2 : at bytes code2_column i ≡ r.two.code
  pub marks : at bytes marks_column i ≡ r.marks
  pub column : at bytes count_column i ≡ r.count.column

-- all that a row holds, names and is counted in has an id
pub record KnownRow (ls : List Symbol) (r : RowKeys) : Type 0 where
  pub first : is_some r.first ≡ true → id_of (key_in r.first) ls < no_id
  pub second : is_some r.second ≡ true → id_of (key_in r.second) ls < no_id
  pub one : (r.one.code ≡ 0 → ⊥) → id_of r.one.key ls < no_id
  pub two : (r.two.code ≡ 0 → ⊥) → id_of r.two.key ls < no_id
  pub group : is_some r.group ≡ true → id_of (key_in r.group) ls < no_id

-- the keys of a row of the tables, as symbols
abbrev pub keys_at : List Entry → ℕ → RowKeys
keys_at rows i = let e = get_or rows i (record { table = 0; row = 0; reading = bad 1 }) in keys_of (own e.reading) (facts e)

-- the arrays keep the rows
pub record Stored (rows : List Entry) (words links : List ℕ) (count : ℕ) (halves bytes : List ℕ) : Type 0 where
  pub few : length rows ≤ most_places
  pub small : count ≤ most_symbols
  pub table : Table words links count
  pub row : (i : ℕ) → i < length rows → StoredRow (symbols words count) (keys_at rows i) halves bytes i
  pub known : (i : ℕ) → i < length rows → KnownRow (symbols words count) (keys_at rows i)
