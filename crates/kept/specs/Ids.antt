-- The keys of a row become symbols: what is kept of the row then, and what of the symbols stays.
use Rattle.std.specs.Prelude.{ℕ, ◌+◌, ◌≤◌, ◌<◌, ◌≡◌, Bool, true, not, cond, ◌&&◌, List, length, is_some}
use Rattle.symbols.specs.declared.Symbol.{Symbol}
use Rattle.symbols.specs.declared.Interned.{Interned}
use Rattle.symbols.specs.Symbols.{same_symbol, id_of, no_id}
use Rattle.symbols.specs.Arrays.{symbols, most_symbols, all_words, all_links}
use Rattle.symbols.specs.Searches.{Table}
use Rattle.row_keys.specs.declared.records.Named.{Named}
use Rattle.row_keys.specs.declared.records.RowKeys.{RowKeys}
use Rattle.manners.specs.Manners.{bit}
use Rattle.row_keys.specs.Parts.{key_in, is_named}
use Rattle.kept.specs.declared.interning.FirstIds.{FirstIds}
use Rattle.kept.specs.declared.interning.RowIds.{RowIds}
use Rattle.kept.specs.Stored.{slot_id, named_id, KnownRow}

-- the arrays of the symbols have places for as many
pub record Spacious (ws ls : List ℕ) : Type 0 where
  pub words : all_words ≤ length ws
  pub links : all_links ≤ length ls

-- keys keep the ids that they have
pub record KeepsIds (ls ms : List Symbol) : Type 0 where
  pub same : (k : Symbol) → id_of k ls < no_id → id_of k ms ≡ id_of k ls

-- there is a place for a key, or it is a symbol
abbrev pub Fits : List Symbol → ℕ → Symbol → Type 0
Fits ls n k = most_symbols ≤ n → id_of k ls < no_id

-- n symbols have become `count`, of which at most so many are new
pub record Grown (words₀ links₀ : List ℕ) (n : ℕ) (words₁ links₁ : List ℕ) (count more : ℕ) : Type 0 where
  pub keeps : KeepsIds (symbols words₀ n) (symbols words₁ count)
  pub table : Table words₁ links₁ count
  pub few : count ≤ n + more
  pub words : length words₁ ≡ length words₀
  pub links : length links₁ ≡ length links₀

-- a key that is given has an id now, and one that had an id before is no new symbol
pub record Entered (words₀ links₀ words₁ links₁ : List ℕ) (n : ℕ) (given : Bool) (k : Symbol) (r : Interned) : Type 0 where
  pub id : r.id ≡ cond given (id_of k (symbols words₁ r.count)) no_id
  pub known : given ≡ true → id_of k (symbols words₁ r.count) < no_id
  pub grown : Grown words₀ links₀ n words₁ links₁ r.count (bit given)
  pub old : id_of k (symbols words₀ n) < no_id → r.count ≤ n

-- this key is named
abbrev pub names_symbol : Named → Symbol → Bool
names_symbol n k = is_named n && same_symbol k n.key

-- 1 for a key that is given and isn't named
abbrev pub besides : Named → Bool → Symbol → ℕ
besides n given k = bit (given && not (names_symbol n k))

-- how many symbols a row asks for: a second naming or a group that goes by the key of the first naming asks for none
unfoldable pub first_wanted : RowKeys → ℕ
first_wanted r = bit (is_some r.first) + bit (is_some r.second) + bit (is_named r.one)

unfoldable pub wanted : RowKeys → ℕ
wanted r = first_wanted r + besides r.one (is_named r.two) r.two.key + besides r.one (is_some r.group) (key_in r.group)

-- the keys that a row holds and its first naming
pub record FirstEntered (words₀ links₀ words₁ links₁ : List ℕ) (n : ℕ) (r : RowKeys) (ids : FirstIds) : Type 0 where
  pub key1 : ids.key1 ≡ slot_id (symbols words₁ ids.count) r.first
  pub key2 : ids.key2 ≡ slot_id (symbols words₁ ids.count) r.second
  pub name1 : ids.name1 ≡ named_id (symbols words₁ ids.count) r.one
  pub first : is_some r.first ≡ true → id_of (key_in r.first) (symbols words₁ ids.count) < no_id
  pub second : is_some r.second ≡ true → id_of (key_in r.second) (symbols words₁ ids.count) < no_id
  pub one : is_named r.one ≡ true → id_of r.one.key (symbols words₁ ids.count) < no_id
  pub grown : Grown words₀ links₀ n words₁ links₁ ids.count (first_wanted r)

-- all of a row's keys
pub record RowEntered (words₀ links₀ words₁ links₁ : List ℕ) (n : ℕ) (r : RowKeys) (ids : RowIds) : Type 0 where
  pub key1 : ids.key1 ≡ slot_id (symbols words₁ ids.count) r.first
  pub key2 : ids.key2 ≡ slot_id (symbols words₁ ids.count) r.second
  pub name1 : ids.name1 ≡ named_id (symbols words₁ ids.count) r.one
  pub name2 : ids.name2 ≡ named_id (symbols words₁ ids.count) r.two
  pub group : ids.group ≡ slot_id (symbols words₁ ids.count) r.group
  pub known : KnownRow (symbols words₁ ids.count) r
  pub grown : Grown words₀ links₀ n words₁ links₁ ids.count (wanted r)
