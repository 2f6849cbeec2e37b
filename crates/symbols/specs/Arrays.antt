-- Symbols in arrays: four words for each, and links that lead to them.
use Rattle.std.specs.Prelude.{ℕ, zero, suc, ◌+◌, ◌*◌, ◌/◌, ◌%◌, ◌≡◌, refl, Bool, cond, ◌&&◌, List, [], ◌∷◌, ◌++◌, eqb, ltb, length, get_or, set}
use Rattle.arrays.specs.Room.{most_places}
use Rattle.symbols.specs.declared.Symbol.{Symbol}

-- what stands past the end of an array is 0
unfoldable pub symbol_at : List ℕ → ℕ → Symbol
symbol_at words i = record { space = get_or words (4 * i) 0; a = get_or words (4 * i + 1) 0; b = get_or words (4 * i + 2) 0; c = get_or words (4 * i + 3) 0 }

-- the first n
unfoldable pub symbols : List ℕ → ℕ → List Symbol
symbols words zero = []
symbols words (suc n) = symbols words n ++ symbol_at words n ∷ []

unfoldable pub put_symbol : List ℕ → ℕ → Symbol → List ℕ
put_symbol words n k = set (set (set (set words (4 * n) k.space) (4 * n + 1) k.a) (4 * n + 2) k.b) (4 * n + 3) k.c

-- each key space has buckets of its own, as long as there are at most sixteen
unfoldable pub bucket_of : Symbol → ℕ
bucket_of k = k.space % 16 * 1024 + (k.a % 65521 + k.b % 65521 * 31 + k.c % 65521 * 37) % 1021

-- a bucket is a tree: the links of the buckets come first, and then two for each symbol.
-- A link is one more than an id, 0 where it leads nowhere
abbrev pub heads : ℕ
heads = 16384

-- which of its two links leads on from symbol i, by the lowest bit of what is left of a key
abbrev pub link_from : ℕ → Symbol → ℕ
link_from i trail = heads + 2 * i + trail.a % 2

-- what is left of a key after a step: its words bit by bit, so that keys of one bucket part where their bits differ
unfoldable pub turned : Symbol → Symbol
turned k =
    cond (eqb k.a 0)
    (record { space = k.space; a = k.b; b = k.c; c = 0 })
    (record { space = k.space; a = k.a / 2; b = k.b; c = k.c })

-- symbol n is led to from a place, and leads nowhere
unfoldable pub put_link : List ℕ → (n place : ℕ) → List ℕ
put_link links n place = set (set (set links (heads + 2 * n) 0) (heads + 2 * n + 1) 0) place (n + 1)

-- there is a place for symbol n in both arrays, and for its id and one more in a link
unfoldable pub has_space : List ℕ → List ℕ → ℕ → Bool
has_space words links n = ltb n 65535 && (ltb (4 * n + 3) (length words) && ltb (heads + 2 * n + 1) (length links))

-- the room of arrays by key: two keys for each row that arrays have a place for,
-- as many as a row holds and names on the average
abbrev pub most_symbols : ℕ
most_symbols = 2 * most_places

-- the words and the links of so many symbols
abbrev pub all_words : ℕ
all_words = 4 * most_symbols

abbrev pub all_links : ℕ
all_links = heads + 2 * most_symbols

pub record Examples : Type 0 where
  pub put : symbols (put_symbol (0 ∷ 7 ∷ 0 ∷ 0 ∷ 0 ∷ 0 ∷ 0 ∷ 0 ∷ []) 1 (record { space = 3; a = 1; b = 2; c = 4 })) 2
      ≡ record { space = 0; a = 7; b = 0; c = 0 } ∷ record { space = 3; a = 1; b = 2; c = 4 } ∷ []
  pub bucket : bucket_of (record { space = 3; a = 1023; b = 1; c = 1 }) ≡ 3142
  pub bits : turned (turned (record { space = 3; a = 1; b = 6; c = 2 })) ≡ record { space = 3; a = 6; b = 2; c = 0 }

pub examples : Examples
unfolding symbols symbol_at put_symbol bucket_of turned
examples = record { put = refl; bucket = refl; bits = refl }
