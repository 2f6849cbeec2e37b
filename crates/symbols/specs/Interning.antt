-- What interning a key does, whatever the arrays hold. That in a table it does what it is for is a law: `interns`.
use Rattle.std.specs.Prelude.{ℕ, ◌+◌, ◌≡◌, refl, Bool, cond, ◌&&◌, List, [], eqb}
use Rattle.symbols.specs.declared.Symbol.{Symbol}
use Rattle.symbols.specs.declared.Interned.{Interned}
use Rattle.symbols.specs.Symbols.{no_id}
use Rattle.symbols.specs.Arrays.{put_symbol, bucket_of, put_link, has_space}
use Rattle.symbols.specs.Searches.{follow, followed, sought, found}

-- k isn't found, and there is room for it as symbol n
unfoldable pub is_new : List ℕ → List ℕ → ℕ → Symbol → Bool
is_new words links n k = eqb (sought words links k) 0 && has_space words links n

unfoldable pub interned : List ℕ → List ℕ → ℕ → Symbol → Interned
interned words links n k = cond (is_new words links n k) (record { id = n; count = n + 1 }) (record { id = found words links k; count = n })

unfoldable pub words_after : List ℕ → List ℕ → ℕ → Symbol → List ℕ
words_after words links n k = cond (is_new words links n k) (put_symbol words n k) words

unfoldable pub links_after : List ℕ → List ℕ → ℕ → Symbol → List ℕ
links_after words links n k = cond (is_new words links n k) (put_link links n (followed words links k).place) links

-- what interning k answers, and what it leaves in the arrays
pub record Interns (words₀ links₀ words₁ links₁ : List ℕ) (n : ℕ) (k : Symbol) (r : Interned) : Type 0 where
  pub answer : r ≡ interned words₀ links₀ n k
  pub words : words₁ ≡ words_after words₀ links₀ n k
  pub links : links₁ ≡ links_after words₀ links₀ n k

pub record Examples : Type 0 where
  pub no_room : interned [] [] 0 (record { space = 0; a = 1; b = 0; c = 0 }) ≡ record { id = no_id; count = 0 }

pub examples : Examples
unfolding interned is_new found followed follow bucket_of has_space
examples = record { no_room = refl }
