-- Following the links to a key, whatever the arrays hold, and the arrays of a table, in which every symbol is found so.
use Rattle.std.specs.Prelude.{ℕ, zero, suc, ◌+◌, ◌*◌, ◌-◌, ◌≤◌, ◌<◌, ◌≡◌, refl, cond, List, [], ◌∷◌, eqb, get_or}
use Rattle.symbols.specs.declared.Symbol.{Symbol}
use Rattle.symbols.specs.declared.Trace.{Trace}
use Rattle.symbols.specs.Symbols.{same_symbol, no_id}
use Rattle.symbols.specs.Arrays.{symbol_at, bucket_of, heads, link_from, turned}

-- from the link at a place on: one more than the id under which k is found, or 0,
-- and the place of the last link that was followed
unfoldable pub follow : List ℕ → List ℕ → Symbol → (steps : ℕ) → (trail : Symbol) → (place : ℕ) → Trace
follow words links k zero trail place = record { at = 0; place = place }
follow words links k (suc steps) trail place =
    cond (eqb (get_or links place 0) 0) (record { at = 0; place = place })
    (cond (same_symbol k (symbol_at words (get_or links place 0 - 1))) (record { at = get_or links place 0; place = place })
    (follow words links k steps (turned trail) (link_from (get_or links place 0 - 1) trail)))

-- from the key's bucket on. More steps than there can be symbols are never taken in a table
unfoldable pub followed : List ℕ → List ℕ → Symbol → Trace
followed words links k = follow words links k 65536 k (bucket_of k)

abbrev pub sought : List ℕ → List ℕ → Symbol → ℕ
sought words links k = (followed words links k).at

unfoldable pub found : List ℕ → List ℕ → Symbol → ℕ
found words links k = cond (eqb (sought words links k) 0) no_id (sought words links k - 1)

-- what a search answers
pub record Traced (words links : List ℕ) (k : Symbol) (r : Trace) : Type 0 where
  pub is : r ≡ followed words links k
  pub small : r.at < 65536

-- the arrays hold n symbols: links lead to these alone, from one to later ones, and each is found
pub record Table (words links : List ℕ) (n : ℕ) : Type 0 where
  pub few : n ≤ 65535
  pub first : (h : ℕ) → h < heads → get_or links h 0 ≤ n
  pub next : (i t : ℕ) → i < n → t < 2 → get_or links (heads + 2 * i + t) 0 ≤ n
  pub later : (i t : ℕ) → i < n → t < 2 → (get_or links (heads + 2 * i + t) 0 ≡ 0 → ⊥) → i + 1 < get_or links (heads + 2 * i + t) 0
  pub finds : (i : ℕ) → i < n → sought words links (symbol_at words i) ≡ i + 1

abbrev symbol_one : Symbol
symbol_one = record { space = 0; a = 1; b = 0; c = 0 }

-- of the same bucket
abbrev other : Symbol
other = record { space = 0; a = 1022; b = 0; c = 0 }

pub record Examples : Type 0 where
  -- bucket 1 leads to symbol 1, the second in these words
  pub second : follow (0 ∷ 1022 ∷ 0 ∷ 0 ∷ 0 ∷ 1 ∷ 0 ∷ 0 ∷ []) (0 ∷ 2 ∷ []) symbol_one 2 symbol_one (bucket_of symbol_one) ≡ record { at = 2; place = 1 }
  -- from which link 16,386 leads nowhere
  pub none : follow (0 ∷ 1022 ∷ 0 ∷ 0 ∷ 0 ∷ 1 ∷ 0 ∷ 0 ∷ []) (0 ∷ 2 ∷ []) other 2 other (bucket_of other) ≡ record { at = 0; place = 16386 }

pub examples : Examples
unfolding follow turned same_symbol symbol_at bucket_of
examples = record { second = refl; none = refl }
