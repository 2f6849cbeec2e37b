-- What is known of a row by its symbols alone.
use Rattle.std.specs.Prelude.{◌≡◌, Bool, true, false, cond, ◌&&◌, ℕ, ◌<◌, eqb, Option, is_some}
use mathlib.Core.List.{List, [], ◌∷◌, map, Memᴰ}
use Rattle.laws.specs.Lists.{keep}
use Rattle.symbols.specs.declared.Symbol.{Symbol}
use Rattle.symbols.specs.Symbols.{same_symbol}
use Rattle.verdicts.specs.Key.{Key}
use Rattle.verdicts.specs.Facts.{Condition, Naming, Count, Facts}
use Rattle.key_symbols.specs.Keyed.{symbol_of, space_of}
use Rattle.keys.specs.Ranks.{parameters, rank}
use Rattle.key_symbols.specs.Bounded.{Bounded}
use Rattle.row_keys.specs.declared.records.Named.{Named}
use Rattle.row_keys.specs.declared.records.RowKeys.{RowKeys}
use Rattle.row_keys.specs.Parts.{key_in, is_named}
use Rattle.manners.specs.Manners.{Manner, manner_of, manner_at, weight, is_met_by}

-- the symbols that are given
abbrev pub given_in : List (Option Symbol) → List Symbol
given_in slots = map key_in (keep is_some slots)

-- this symbol is given
abbrev pub has : Option Symbol → Symbol → Bool
has s k = is_some s && same_symbol k (key_in s)

-- a naming with the symbol of the named key
pub record SymbolNaming : Type 0 where
  pub manner : Manner
  pub key : Symbol

abbrev pub of_naming : Naming → SymbolNaming
of_naming n = record { manner = manner_of n; key = symbol_of n.key }

abbrev pub of_named : Named → SymbolNaming
of_named n = record { manner = manner_at n.code; key = n.key }

-- what a row names
abbrev pub named_in : RowKeys → List Named
named_in r = keep is_named (r.one ∷ r.two ∷ [])

-- a count with the symbol of its group
pub record SymbolCount : Type 0 where
  pub column : ℕ
  pub number : ℕ
  pub group : Symbol

abbrev pub of_count : Count → SymbolCount
of_count c = record { column = c.column; number = c.number; group = symbol_of c.group }

-- the count of a row that counts: the group goes by its first key
abbrev pub count_in : RowKeys → SymbolCount
count_in r = record { column = r.count.column; number = r.count.number; group = key_in r.first }

abbrev pub counted_in : RowKeys → List SymbolCount
counted_in r = cond (eqb r.count.column 0) [] (count_in r ∷ [])

-- the rank of a row's keys; 0 where it holds none
abbrev pub rank_in : RowKeys → ℕ
rank_in r = rank (key_in r.first).space

-- the row's facts are what its symbols say: proved of every row, see `row_says`
pub record Says (f : Facts) (r : RowKeys) : Type 0 where
  pub keys : map symbol_of f.keys ≡ given_in (r.first ∷ r.second ∷ [])
  pub names : map of_naming f.names ≡ map of_named (named_in r)
  pub counts : map of_count f.counts ≡ counted_in r
  pub groups : map symbol_of f.groups ≡ given_in (r.group ∷ [])
  pub meets : (c : Condition) → f.meets c ≡ is_met_by r.marks (weight c)
  -- a row that names or counts holds a key
  pub names_hold : is_named r.one ≡ true → is_some r.first ≡ true
  pub counts_hold : eqb r.count.column 0 ≡ false → is_some r.first ≡ true
  -- its two keys are of two key spaces of one rank
  pub apart : is_some r.first ≡ true → is_some r.second ≡ true → (key_in r.first).space ≡ (key_in r.second).space → ⊥
  pub level : is_some r.second ≡ true → rank (key_in r.second).space ≡ rank_in r
  -- what it names has a lower rank
  pub below : (n : Naming) → Memᴰ n f.names → n.chained ≡ false → rank (space_of n.key) < rank_in r
  -- but for the VALID chain, which stays among the parameters and goes through the first naming
  pub chain : (n : Naming) → Memᴰ n f.names → n.chained ≡ true → (space_of n.key ≡ parameters) × ((key_in r.first).space ≡ parameters)
  pub chain_first : (manner_at r.two.code).chained ≡ false
  -- its keys are told apart by their symbols: see `symbol_exact`
  pub keys_bounded : (k : Key) → Memᴰ k f.keys → Bounded k
  pub names_bounded : (n : Naming) → Memᴰ n f.names → Bounded n.key
  pub counts_bounded : (c : Count) → Memᴰ c f.counts → Bounded c.group
  pub groups_bounded : (k : Key) → Memᴰ k f.groups → Bounded k
