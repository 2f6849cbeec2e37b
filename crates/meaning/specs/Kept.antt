-- What is kept of rows: the ids of their keys and of their groups among the symbols.
use Rattle.std.specs.Prelude.{ℕ, ◌+◌, ◌≤◌, ◌<◌, ◌≡◌, false, List, [], ◌∷◌, eqb, length, get_or, drop}
use Rattle.laws.specs.Lists.{or_else}
use Rattle.laws.specs.Prefix.{count_with, last_with, flag}
use Rattle.symbols.specs.declared.Symbol.{Symbol}
use Rattle.symbols.specs.Symbols.{same_symbol, no_id, id_of}
use Rattle.passes.specs.Marked.{has_id}
use Rattle.verdicts.specs.Key.{Key, same_key}
use Rattle.verdicts.specs.Entries.{Entry, bad, own, facts}
use Rattle.verdicts.specs.Steps.{twin}

-- keys as symbols, which are the same just where the keys are. `Fit` is what that asks of a key,
-- such as names of eight bytes
pub record Coding : Type 1 where
  pub symbol_of : Key → Symbol
  pub Fit : Key → Type 0
  pub exact : (k l : Key) → Fit k → Fit l → same_key k l ≡ same_symbol (symbol_of k) (symbol_of l)

abbrev pub key_id : Coding → List Symbol → Key → ℕ
key_id c symbols k = id_of (c.symbol_of k) symbols

-- the key has an id
pub record Known (c : Coding) (symbols : List Symbol) (k : Key) : Type 0 where
  pub fits : c.Fit k
  pub numbered : key_id c symbols k < no_id

-- the id of the first of these keys
abbrev pub first_id : Coding → List Symbol → List Key → ℕ
first_id c symbols [] = no_id
first_id c symbols (k ∷ ks) = key_id c symbols k

pub data AllKnown (c : Coding) (symbols : List Symbol) : List Key → Type 0 where
  none : AllKnown c symbols []
  more : {k : Key} {ks : List Key} → Known c symbols k → AllKnown c symbols ks → AllKnown c symbols (k ∷ ks)

-- what a row may hold: at most two keys, which differ
pub data AtMostTwo : List Key → Type 0 where
  zero_keys : AtMostTwo []
  one_key : {k : Key} → AtMostTwo (k ∷ [])
  two_keys : {k l : Key} → same_key k l ≡ false → AtMostTwo (k ∷ l ∷ [])

-- and the groups that it is counted in: at most one
pub data AtMostOne : List Key → Type 0 where
  no_group : AtMostOne []
  one_group : {k : Key} → AtMostOne (k ∷ [])

-- row i of a list of rows
abbrev pub no_entry : Entry
no_entry = record { table = 0; row = 0; reading = bad 1 }

abbrev pub kept_entry : List Entry → ℕ → Entry
kept_entry rows i = get_or rows i no_entry

-- a row by whether it is well-formed, its two keys and its group
pub record KeptRow (c : Coding) (symbols : List Symbol) (e : Entry) (f k₁ k₂ g : ℕ) : Type 0 where
  pub formed : f ≡ flag (eqb (own e.reading) 0)
  pub key1 : k₁ ≡ first_id c symbols (facts e).keys
  pub key2 : k₂ ≡ first_id c symbols (drop 1 (facts e).keys)
  pub group : g ≡ first_id c symbols (facts e).groups
  pub known : AllKnown c symbols (facts e).keys
  pub grouped : AllKnown c symbols (facts e).groups

-- rows that can be told apart, each with at most two keys and one group
pub record ToldApart (rows : List Entry) : Type 0 where
  pub places : (i j : ℕ) → i < length rows → j < length rows → twin (kept_entry rows i) (kept_entry rows j) ≡ eqb i j
  pub apart : (i : ℕ) → i < length rows → AtMostTwo (facts (kept_entry rows i)).keys
  pub single : (i : ℕ) → i < length rows → AtMostOne (facts (kept_entry rows i)).groups

-- the arrays keep the rows
pub record Kept (c : Coding) (symbols : List Symbol) (rows : List Entry) (formed key1 key2 group : List ℕ) : Type 0 where
  pub tables : ToldApart rows
  pub row : (i : ℕ) → i < length rows → KeptRow c symbols (kept_entry rows i) (get_or formed i 0) (get_or key1 i 0) (get_or key2 i 0) (get_or group i 0)

-- how many of the first n rows hold the key with this id, as two passes count
unfoldable pub holders_of : (formed key1 key2 : List ℕ) → (n id : ℕ) → ℕ
holders_of formed key1 key2 n id = count_with (has_id formed key1 id) n + count_with (has_id formed key2 id) n

-- one more than a row of the first n that holds it, as two passes note
unfoldable pub holder_of : (formed key1 key2 : List ℕ) → (n id : ℕ) → ℕ
holder_of formed key1 key2 n id = or_else (last_with (has_id formed key2 id) n) (last_with (has_id formed key1 id) n)

-- an array by id, with a place for each symbol and none for no_id
pub record ById (symbols : List Symbol) (f : ℕ → ℕ) (xs : List ℕ) : Type 0 where
  pub wide : length symbols ≤ length xs
  pub narrow : length xs ≤ no_id
  pub at : (id : ℕ) → id < length xs → get_or xs id 0 ≡ f id
