-- Places in a list of symbols.
use mathlib.Core.Path.{◌≡◌, refl, ap, sym, ◌∙◌}
use mathlib.Core.Bool.{Bool, true, false, cond}
use mathlib.Core.List.{List, [], ◌∷◌, ◌++◌}
use Prim.Native.Nat.{ℕ, zero, suc, ◌+◌, ◌≤◌, ◌<◌}
use native.Mathlib.Omega.{arith}
use lib.Dec.{ltb}
use lib.ListN.{length, get_or, length-append}
use borrow.Author.Tests.{lt-ltb, le-ltb, ltb-true, ltb-false}
use Rattle.laws.proofs.Cases.{bool_cases}
use Rattle.symbols.specs.declared.Symbol.{Symbol}
use Rattle.symbols.specs.Symbols.{same_symbol, symbol_place, no_id, id_of, grown}
use Rattle.symbols.proofs.SameLaws.{same_is, same_self}

pub place_within : (k : Symbol) (ls : List Symbol) → symbol_place k ls ≤ length ls
unfolding symbol_place
place_within k [] = omega arith
place_within k (l ∷ ls) = go (same_symbol k l) (place_within k ls)
  where
    go : (t : Bool) → symbol_place k ls ≤ length ls → cond t 0 (suc (symbol_place k ls)) ≤ suc (length ls)
    go true h = omega arith
    go false h = omega arith

-- at its place stands the symbol
pub place_holds : (k d : Symbol) (ls : List Symbol) → symbol_place k ls < length ls → get_or ls (symbol_place k ls) d ≡ k
unfolding symbol_place
place_holds k d [] h = absurd (omega arith)
place_holds k d (l ∷ ls) h = go (same_symbol k l) refl h (λ q. place_holds k d ls q)
  where
    go : (t : Bool) → same_symbol k l ≡ t → cond t 0 (suc (symbol_place k ls)) < suc (length ls)
        → (symbol_place k ls < length ls → get_or ls (symbol_place k ls) d ≡ k) → get_or (l ∷ ls) (cond t 0 (suc (symbol_place k ls))) d ≡ k
    go true e q r = sym (same_is k l e)
    go false e q r = r (omega arith)

-- and it is the first such place
pub place_first : (k d : Symbol) (ls : List Symbol) (i : ℕ) → i < length ls → get_or ls i d ≡ k → symbol_place k ls ≤ i
unfolding symbol_place
place_first k d [] i h e = absurd (omega arith)
place_first k d (l ∷ ls) zero h e = rw (e, same_self k) (omega arith)
place_first k d (l ∷ ls) (suc i) h e = go (same_symbol k l) (place_first k d ls i (omega arith) e)
  where
    go : (t : Bool) → symbol_place k ls ≤ i → cond t 0 (suc (symbol_place k ls)) ≤ suc i
    go true q = omega arith
    go false q = omega arith

-- two keys, of which one is a symbol, have one place just where they are one
pub places_tell : (k l : Symbol) (ls : List Symbol) → symbol_place k ls < length ls → symbol_place k ls ≡ symbol_place l ls → k ≡ l
places_tell k l ls h e =
    sym (place_holds k k ls h) ∙ ap (λ (i : ℕ). get_or ls i k) e ∙ place_holds l k ls (omega arith)

place_append : (k : Symbol) (ls ms : List Symbol) → symbol_place k ls < length ls → symbol_place k (ls ++ ms) ≡ symbol_place k ls
unfolding symbol_place
place_append k [] ms h = absurd (omega arith)
place_append k (l ∷ ls) ms h = go (same_symbol k l) h (λ q. place_append k ls ms q)
  where
    go : (t : Bool) → cond t 0 (suc (symbol_place k ls)) < suc (length ls) → (symbol_place k ls < length ls → symbol_place k (ls ++ ms) ≡ symbol_place k ls)
        → cond t 0 (suc (symbol_place k (ls ++ ms))) ≡ cond t 0 (suc (symbol_place k ls))
    go true q r = refl
    go false q r = ap suc (r (omega arith))

place_end : (k : Symbol) (ls : List Symbol) → length ls ≤ symbol_place k ls → symbol_place k (ls ++ k ∷ []) ≡ length ls
unfolding symbol_place
place_end k [] h = rw (same_self k)
place_end k (l ∷ ls) h = go (same_symbol k l) h (λ q. place_end k ls q)
  where
    go : (t : Bool) → suc (length ls) ≤ cond t 0 (suc (symbol_place k ls)) → (length ls ≤ symbol_place k ls → symbol_place k (ls ++ k ∷ []) ≡ length ls)
        → cond t 0 (suc (symbol_place k (ls ++ k ∷ []))) ≡ suc (length ls)
    go true q r = absurd (omega arith)
    go false q r = ap suc (r (omega arith))

-- ---- ids

module _ (k : Symbol) (ls : List Symbol) where
  pub id_is : symbol_place k ls < length ls → id_of k ls ≡ symbol_place k ls
  unfolding id_of
  id_is h = rw (lt-ltb _ _ h)

  pub id_none : length ls ≤ symbol_place k ls → id_of k ls ≡ no_id
  unfolding id_of
  id_none h = rw (le-ltb _ _ h)

  -- what has an id is a symbol
  pub id_symbol : id_of k ls < no_id → symbol_place k ls < length ls
  id_symbol h =
      bool_cases (ltb (symbol_place k ls) (length ls)) (λ q. ltb-true _ _ q)
      (λ q. absurd (let e = id_none (ltb-false _ _ q) in omega arith))

  pub id_below : id_of k ls < no_id → id_of k ls < length ls
  id_below h = let s = id_symbol h in let e = id_is s in omega arith

-- THE LAW OF IDS: two keys, of which one has an id, have one id just where they are one
pub ids_tell : (k l : Symbol) (ls : List Symbol) → id_of k ls < no_id → id_of k ls ≡ id_of l ls → k ≡ l
ids_tell k l ls h e =
    let s = id_symbol k ls h in
    let t = id_symbol l ls (omega arith) in
    places_tell k l ls s (sym (id_is k ls s) ∙ e ∙ id_is l ls t)

-- ---- symbols that grow

module _ (room : Bool) (l : Symbol) (ls : List Symbol) where
  pub grown_old : symbol_place l ls < length ls → grown room l ls ≡ ls
  unfolding grown
  grown_old h = rw (lt-ltb _ _ h)

  pub grown_full : room ≡ false → grown room l ls ≡ ls
  unfolding grown
  grown_full f = rw f (go (ltb (symbol_place l ls) (length ls)))
    where
      go : (t : Bool) → cond t ls ls ≡ ls
      go true = refl
      go false = refl

  pub grown_new : length ls ≤ symbol_place l ls → room ≡ true → grown room l ls ≡ ls ++ l ∷ []
  unfolding grown
  grown_new h f = rw (le-ltb _ _ h, f)

  -- what holds of symbols that stay and of symbols with one more
  cases : (P : List Symbol → Type 0) → P ls → P (ls ++ l ∷ []) → P (grown room l ls)
  unfolding grown
  cases P p q = go (ltb (symbol_place l ls) (length ls)) room
    where
      go : (s t : Bool) → P (cond s ls (cond t (ls ++ l ∷ []) ls))
      go true t = p
      go false true = q
      go false false = p

  -- THE LAW OF GROWTH: symbols keep their places
  pub grown_keeps : (k : Symbol) → symbol_place k ls < length ls → symbol_place k (grown room l ls) ≡ symbol_place k ls
  grown_keeps k h = cases (λ m. symbol_place k m ≡ symbol_place k ls) refl (place_append k ls (l ∷ []) h)

  pub grown_longer : length ls ≤ length (grown room l ls)
  grown_longer = cases (λ m. length ls ≤ length m) (omega arith) (omega (arith, length-append ls (l ∷ [])))

  pub grown_most : length (grown room l ls) ≤ length ls + 1
  grown_most = cases (λ m. length m ≤ length ls + 1) (omega arith) (omega (arith, length-append ls (l ∷ [])))

  -- the new symbol stands last
  pub new_place : length ls ≤ symbol_place l ls → symbol_place l (ls ++ l ∷ []) ≡ length ls
  new_place h = place_end l ls h

  -- where there is room, the key is a symbol afterwards
  pub grown_has : room ≡ true → symbol_place l (grown room l ls) < length (grown room l ls)
  grown_has f =
      bool_cases (ltb (symbol_place l ls) (length ls))
      (λ q. let s = ltb-true (symbol_place l ls) (length ls) q in rw (grown_old s) s)
      (λ q. let w = ltb-false (symbol_place l ls) (length ls) q in
      let e = place_end l ls w in
      rw (grown_new w f) (omega (arith, e, length-append ls (l ∷ []))))

-- ---- symbols that have grown, by one or more

pub record Extends (ls ms : List Symbol) : Type 0 where
  pub longer : length ls ≤ length ms
  pub keeps : (k : Symbol) → symbol_place k ls < length ls → symbol_place k ms ≡ symbol_place k ls

pub extends_self : (ls : List Symbol) → Extends ls ls
extends_self ls = record { longer = omega arith; keeps = λ k h. refl }

pub extends_on : {ls ms ns : List Symbol} → Extends ls ms → Extends ms ns → Extends ls ns
extends_on p q =
    record {
      longer = omega (arith, p.longer, q.longer);
      keeps = λ k h. let e = p.keeps k h in q.keeps k (omega (arith, p.longer)) ∙ e;
    }

pub extends_grown : (room : Bool) (l : Symbol) (ls : List Symbol) → Extends ls (grown room l ls)
extends_grown room l ls = record { longer = grown_longer room l ls; keeps = λ k h. grown_keeps room l ls k h }

-- an id stays right
pub id_stays : {ls ms : List Symbol} → Extends ls ms → (k : Symbol) → id_of k ls < no_id → id_of k ms ≡ id_of k ls
id_stays {ls} {ms} w k h =
    let s = id_symbol k ls h in
    let e = w.keeps k s in
    id_is k ms (omega (arith, w.longer)) ∙ e ∙ sym (id_is k ls s)
