-- Holding, belonging, naming and counting, asked of symbols instead of rows.
use mathlib.Core.Path.{◌≡◌, refl, ap, ap₂, ◌∙◌}
use mathlib.Core.Bool.{Bool, true, false, not, cond, ◌&&◌, ◌||◌, or-false, and-false, and_comm}
use mathlib.Core.List.{List, [], ◌∷◌, map, Memᴰ}
use Prim.Native.Nat.{ℕ, zero, suc}
use Rattle.std.specs.Prelude.{is_some}
use native.Mathlib.Omega.{arith}
use lib.Dec.{eqb}
use borrow.Author.Tests.{ne_eqb}
use Rattle.laws.specs.Lists.{any, keep, or_else, first}
use Rattle.symbols.specs.declared.Symbol.{Symbol}
use Rattle.symbols.specs.Symbols.{same_symbol}
use Rattle.verdicts.specs.Key.{Key, same_key}
use Rattle.verdicts.specs.Facts.{Naming, Count}
use Rattle.verdicts.specs.Entries.{Entry, facts}
use Rattle.verdicts.specs.Steps.{holds, belongs}
use Rattle.verdicts.specs.Verdicts.{follows}
use Rattle.manners.specs.Manners.{manners, manner_at}
use Rattle.row_keys.specs.Parts.{key_in, is_named}
use Rattle.row_keys.specs.declared.records.RowKeys.{RowKeys}
use Rattle.key_symbols.specs.Keyed.{symbol_of}
use Rattle.key_symbols.specs.Bounded.{Bounded}
use Rattle.keys.specs.Says.{has, SymbolNaming, of_naming, of_named, SymbolCount, of_count, count_in, Says}
use Rattle.key_symbols.proofs.ExactLaws.{symbol_exact}

-- what is asked of each element of a list is asked of what it is mapped to
any_through : {A B : Type 0} (f : A → Bool) (g : B → Bool) (to : A → B) (l : List A) → ((a : A) → Memᴰ a l → f a ≡ g (to a)) → any f l ≡ any g (map to l)
any_through f g to [] e = refl
any_through f g to (a ∷ l) e = ap₂ ◌||◌ (e a (Memᴰ.head refl)) (any_through f g to l (λ b m. e b (Memᴰ.tail m)))

map_through : {A B C : Type 0} (f : A → C) (g : B → C) (to : A → B) (l : List A) → ((a : A) → Memᴰ a l → f a ≡ g (to a)) → map f l ≡ map g (map to l)
map_through f g to [] e = refl
map_through {C = C} f g to (a ∷ l) e = ap₂ {C = List C} ◌∷◌ (e a (Memᴰ.head refl)) (map_through f g to l (λ b m. e b (Memᴰ.tail m)))

-- a test of those that are kept, of one or two
kept_one : {A B : Type 0} (f : B → Bool) (to : A → B) (a : A) (l : List A) (y : Bool) → any f (map to (cond y (a ∷ l) l)) ≡ (y && f (to a) || any f (map to l))
kept_one f to a l true = refl
kept_one f to a l false = refl

kept_any : {A B : Type 0} (f : B → Bool) (to : A → B) (kept : A → Bool) (a b : A)
    → any f (map to (keep kept (a ∷ b ∷ []))) ≡ (kept a && f (to a) || kept b && f (to b))
kept_any f to kept a b =
    kept_one f to a (keep kept (b ∷ [])) (kept a)
    ∙ ap (λ (t : Bool). kept a && f (to a) || t) (kept_one f to b [] (kept b) ∙ or-false _)

-- the first number of those that are kept of two
or_zero : (n : ℕ) → or_else n 0 ≡ n
or_zero zero = refl
or_zero (suc n) = refl

first_at : (m n : ℕ) (y z : Bool) → first (cond y (m ∷ cond z (n ∷ []) []) (cond z (n ∷ []) [])) ≡ or_else (cond y m 0) (cond z n 0)
first_at m n true true = rw or_zero
first_at m n true false = refl
first_at m n false true = or_zero n
first_at m n false false = refl

count_at : (g : SymbolCount → ℕ) (c : SymbolCount) (z : Bool) → first (map g (cond z [] (c ∷ []))) ≡ cond z 0 (g c)
count_at g c true = refl
count_at g c false = or_zero (g c)

kept_map : {A B C : Type 0} (f : B → C) (to : A → B) (kept : A → Bool) (a b : A)
    → map f (map to (keep kept (a ∷ b ∷ [])))
    ≡ cond (kept a) (f (to a) ∷ cond (kept b) (f (to b) ∷ []) []) (cond (kept b) (f (to b) ∷ []) [])
kept_map {A} {B} {C} f to kept a b = go (kept a) (kept b)
  where
    go : (y z : Bool) → map f (map to (cond y (a ∷ cond z (b ∷ []) []) (cond z (b ∷ []) [])))
        ≡ cond {A = List C} y (f (to a) ∷ cond z (f (to b) ∷ []) []) (cond z (f (to b) ∷ []) [])
    go true true = refl
    go true false = refl
    go false true = refl
    go false false = refl

module _ (o : Entry) (r : RowKeys) (h : Says (facts o) r) where
  -- a test of the keys that the row holds
  pub keys_any : (f : Key → Bool) (g : Symbol → Bool) → ((k : Key) → Bounded k → f k ≡ g (symbol_of k))
      → any f (facts o).keys ≡ (is_some r.first && g (key_in r.first) || is_some r.second && g (key_in r.second))
  keys_any f g e =
      any_through f g symbol_of (facts o).keys (λ k m. e k (h.keys_bounded k m)) ∙ ap (any g) h.keys
      ∙ kept_any g key_in is_some r.first r.second

  -- the row holds a key
  pub holds_has : (k : Key) → Bounded k → holds o k ≡ (has r.first (symbol_of k) || has r.second (symbol_of k))
  unfolding holds
  holds_has k b = keys_any (same_key k) (same_symbol (symbol_of k)) (λ l c. symbol_exact k l b c)

  -- the row is counted in a group
  pub belongs_has : (k : Key) → Bounded k → belongs o k ≡ has r.group (symbol_of k)
  unfolding belongs
  belongs_has k b =
      any_through (same_key k) (same_symbol (symbol_of k)) symbol_of (facts o).groups (λ l m. symbol_exact k l b (h.groups_bounded l m))
      ∙ ap (any (same_symbol (symbol_of k))) h.groups
      ∙ kept_one (same_symbol (symbol_of k)) key_in r.group [] (is_some r.group)
      ∙ or-false _

  -- one of what the row names
  pub names_any : (f : Naming → Bool) (g : SymbolNaming → Bool) → ((n : Naming) → Bounded n.key → f n ≡ g (of_naming n))
      → any f (facts o).names ≡ (is_named r.one && g (of_named r.one) || is_named r.two && g (of_named r.two))
  names_any f g e =
      any_through f g of_naming (facts o).names (λ n m. e n (h.names_bounded n m)) ∙ ap (any g) h.names
      ∙ kept_any g of_named is_named r.one r.two

  -- the first that isn't 0 of what is asked of each naming, by rising column
  pub names_first : (f : Naming → ℕ) (g : SymbolNaming → ℕ) → ((n : Naming) → Bounded n.key → f n ≡ g (of_naming n))
      → first (map f (facts o).names) ≡ or_else (cond (is_named r.one) (g (of_named r.one)) 0) (cond (is_named r.two) (g (of_named r.two)) 0)
  names_first f g e =
      ap first (map_through f g of_naming (facts o).names (λ n m. e n (h.names_bounded n m)) ∙ ap (map g) h.names)
      ∙ ap first (kept_map g of_named is_named r.one r.two)
      ∙ first_at (g (of_named r.one)) (g (of_named r.two)) (is_named r.one) (is_named r.two)

  -- the same of what it counts
  pub counts_first : (f : Count → ℕ) (g : SymbolCount → ℕ) → ((c : Count) → Bounded c.group → f c ≡ g (of_count c))
      → first (map f (facts o).counts) ≡ cond (eqb r.count.column 0) 0 (g (count_in r))
  counts_first f g e =
      ap first (map_through f g of_count (facts o).counts (λ c m. e c (h.counts_bounded c m)) ∙ ap (map g) h.counts)
      ∙ count_at g (count_in r) (eqb r.count.column 0)

-- what is chained is named, and only the first may be
chained_only : (code : ℕ) (held : Bool) (named other chained : Bool) → chained ≡ false
    → (not (eqb code 0) && (held && (manner_at code).chained) || named && (other && chained)) ≡ ((manner_at code).chained && held)
unfolding manners manner_at
chained_only zero held named other chained e = rw (e, and-false other, and-false named)
chained_only (suc code) held named other chained e =
    rw (ne_eqb (suc code) 0 (λ (z : suc code ≡ 0). omega arith), e, and-false other, and-false named, or-false) (and_comm held _)

-- two rows hold a key in common
pub shares_has : (e o : Entry) (d r : RowKeys) → Says (facts e) d → Says (facts o) r
    → any (holds o) (facts e).keys
    ≡ (is_some d.first && (has r.first (key_in d.first) || has r.second (key_in d.first))
    || is_some d.second && (has r.first (key_in d.second) || has r.second (key_in d.second)))
shares_has e o d r h j = keys_any e d h (holds o) (λ s. has r.first s || has r.second s) (λ k b. holds_has o r j k b)

-- the VALID chain goes from a row to those that hold what its first naming names
pub follows_has : (e o : Entry) (d r : RowKeys) → Says (facts e) d → Says (facts o) r
    → follows e o ≡ ((manner_at d.one.code).chained && (has r.first d.one.key || has r.second d.one.key))
unfolding follows
follows_has e o d r h j =
    names_any e d h (λ n. holds o n.key && n.chained) (λ n. (has r.first n.key || has r.second n.key) && n.manner.chained)
    (λ n b. ap (λ (t : Bool). t && n.chained) (holds_has o r j n.key b))
    ∙ chained_only d.one.code (has r.first d.one.key || has r.second d.one.key)
    (is_named d.two)
    (has r.first d.two.key || has r.second d.two.key)
    _
    h.chain_first
