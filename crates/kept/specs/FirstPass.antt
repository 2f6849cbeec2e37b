-- The first pass over the tables: what the arrays keep of the lines that it has met.
use Rattle.std.specs.Prelude.{ℕ, suc, ◌+◌, ◌*◌, ◌-◌, ◌≤◌, ◌<◌, ◌≡◌, List, length, get_or, drop}
use Rattle.lines.specs.Lines.{Line, lines_of}
use Rattle.schemas.specs.declared.Table.{Table}
use Rattle.symbols.specs.declared.Symbol.{Symbol}
use Rattle.symbols.specs.Arrays.{symbols}
use Rattle.symbols.specs.Searches as searches
use Rattle.verdicts.specs.Places.{text_at, no_line, rows_before}
use Rattle.verdicts.specs.Entries.{table_count}
use Rattle.row_keys.specs.declared.records.RowKeys.{RowKeys}
use Rattle.keys.specs.Held.{row_keys_of}
use Rattle.kept.specs.Stored.{at, kept_start_column, kept_table_column, StoredRow, KnownRow}
use Rattle.kept.specs.Ids.{Spacious, Grown, wanted}
use Rattle.kept.specs.Puts.{AllPlaces}
use Rattle.kept.specs.Asked.{asks}

-- the lent arrays, and how many symbols there are
pub record Arrays : Type 0 where
  pub words : List ℕ
  pub links : List ℕ
  pub count : ℕ
  pub halves : List ℕ
  pub bytes : List ℕ

abbrev pub arrays : (ws ls : List ℕ) → (n : ℕ) → (hs bs : List ℕ) → Arrays
arrays ws ls n hs bs = record { words = ws; links = ls; count = n; halves = hs; bytes = bs }

abbrev pub symbols_in : Arrays → List Symbol
symbols_in s = symbols s.words s.count

-- the symbols stand in a table, and all arrays have their places
pub record Ready (s : Arrays) : Type 0 where
  pub table : searches.Table s.words s.links s.count
  pub spacious : Spacious s.words s.links
  pub wide : AllPlaces s.halves s.bytes

-- rows have been stored from a place on: those before it stay, and at most so many symbols are new
pub record Onward (s₀ s₁ : Arrays) (from more : ℕ) : Type 0 where
  pub grown : Grown s₀.words s₀.links s₀.count s₁.words s₁.links s₁.count more
  pub halves : (c i : ℕ) → i < from → at s₁.halves c i ≡ at s₀.halves c i
  pub bytes : (c i : ℕ) → i < from → at s₁.bytes c i ≡ at s₀.bytes c i
  pub halves_long : length s₁.halves ≡ length s₀.halves
  pub bytes_long : length s₁.bytes ≡ length s₀.bytes

-- row i is stored, and its keys have ids
pub record RowAt (s : Arrays) (r : RowKeys) (i : ℕ) : Type 0 where
  pub row : StoredRow (symbols_in s) r s.halves s.bytes i
  pub known : KnownRow (symbols_in s) r

-- one row more
pub record RowKept (s₀ s₁ : Arrays) (r : RowKeys) (i start' table' : ℕ) : Type 0 where
  pub onward : Onward s₀ s₁ i (wanted r)
  pub row : RowAt s₁ r i
  pub start : at s₁.halves kept_start_column i ≡ start'
  pub table : at s₁.bytes kept_table_column i ≡ table'

-- line j of a table, from 0
abbrev pub table_line : List ℕ → ℕ → Line
table_line text j = get_or (lines_of text) j no_line

-- line j of a text starts at a place
abbrev pub StartsAt : List ℕ → ℕ → ℕ → Type 0
StartsAt text j start = lines_of (drop start text) ≡ drop j (lines_of text)

-- row i is line j of table number t
pub record LineKept (s : Arrays) (table : Table) (t : ℕ) (text : List ℕ) (j i : ℕ) : Type 0 where
  pub row : RowAt s (row_keys_of table (table_line text j)) i
  pub start : StartsAt text j (at s.halves kept_start_column i)
  pub number : at s.bytes kept_table_column i ≡ t

-- the first m lines of a table are stored from a place on
pub record TableKept (s₀ s₁ : Arrays) (table : Table) (t : ℕ) (text : List ℕ) (from m : ℕ) : Type 0 where
  pub onward : Onward s₀ s₁ from (m * asks table)
  pub line : (j : ℕ) → j < m → LineKept s₁ table t text j (from + j)

-- row i stands in table t, and its line starts at a place there
pub record Situated (texts : List (List ℕ)) (t start' i : ℕ) : Type 0 where
  pub below : t < table_count
  pub low : rows_before texts t ≤ i
  pub high : i < rows_before texts (suc t)
  pub start : StartsAt (text_at texts t) (i - rows_before texts t) start'

-- two columns tell this of the first n rows
abbrev pub Situations : List (List ℕ) → (halves bytes : List ℕ) → ℕ → Type 0
Situations texts halves bytes n = (i : ℕ) → i < n → Situated texts (at bytes kept_table_column i) (at halves kept_start_column i) i

-- the arrays are as long as they were
pub record SameSizes (s₀ s₁ : Arrays) : Type 0 where
  pub words : length s₁.words ≡ length s₀.words
  pub links : length s₁.links ≡ length s₀.links
  pub halves : length s₁.halves ≡ length s₀.halves
  pub bytes : length s₁.bytes ≡ length s₀.bytes

-- tables hold bytes
abbrev pub HoldBytes : List (List ℕ) → Type 0
HoldBytes texts = (t i : ℕ) → t < table_count → get_or (text_at texts t) i 0 < 256
