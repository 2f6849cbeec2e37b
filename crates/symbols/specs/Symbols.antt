-- Symbols: a list of keys without repeats, in which a key goes by its place.
use Rattle.std.specs.Prelude.{ℕ, suc, ◌≡◌, refl, Bool, true, false, cond, ◌&&◌, List, [], ◌∷◌, ◌++◌, eqb, ltb, length}
use Rattle.symbols.specs.declared.Symbol.{Symbol}

unfoldable pub same_symbol : Symbol → Symbol → Bool
same_symbol k l = eqb k.a l.a && (eqb k.b l.b && (eqb k.c l.c && eqb k.space l.space))

-- the place of a symbol, or the number of symbols where it is none of them
unfoldable pub symbol_place : Symbol → List Symbol → ℕ
symbol_place k [] = 0
symbol_place k (l ∷ ls) = cond (same_symbol k l) 0 (suc (symbol_place k ls))

-- no key has this id
abbrev pub no_id : ℕ
no_id = 65535

-- a symbol goes by its place
unfoldable pub id_of : Symbol → List Symbol → ℕ
id_of k ls = cond (ltb (symbol_place k ls) (length ls)) (symbol_place k ls) no_id

-- the symbols with one more at the end, unless it is there or there is no room
unfoldable pub grown : Bool → Symbol → List Symbol → List Symbol
grown room k ls = cond (ltb (symbol_place k ls) (length ls)) ls (cond room (ls ++ k ∷ []) ls)

abbrev key : (space word : ℕ) → Symbol
key space word = record { space = space; a = word; b = 0; c = 0 }

pub record Examples : Type 0 where
  pub second : id_of (key 1 7) (key 0 7 ∷ key 1 7 ∷ []) ≡ 1
  pub none : id_of (key 2 7) (key 0 7 ∷ key 1 7 ∷ []) ≡ no_id
  -- two key spaces may have the same words
  pub new : grown true (key 1 7) (key 0 7 ∷ []) ≡ key 0 7 ∷ key 1 7 ∷ []
  pub there : grown true (key 0 7) (key 0 7 ∷ []) ≡ key 0 7 ∷ []
  pub full : grown false (key 1 7) (key 0 7 ∷ []) ≡ key 0 7 ∷ []

pub examples : Examples
unfolding grown id_of symbol_place same_symbol
examples = record { second = refl; none = refl; new = refl; there = refl; full = refl }
