-- The answers of finding and interning in any arrays, case by case.
use mathlib.Core.Path.{◌≡◌, refl}
use mathlib.Core.Bool.{Bool, true, false, cond, ◌&&◌}
use mathlib.Core.List.{List}
use Prim.Native.Nat.{ℕ, ◌+◌, ◌*◌, ◌-◌, ◌≤◌, ◌<◌}
use native.Mathlib.Omega.{arith}
use lib.Dec.{eqb, ltb}
use lib.ListN.{length, length-set}
use borrow.Author.Tests.{eq-eqb, ne_eqb, ltb-true, lt-ltb}
use Rattle.laws.proofs.Cases.{and_left, and_right, and_false}
use Rattle.symbols.specs.declared.Symbol.{Symbol}
use Rattle.symbols.specs.Symbols.{no_id}
use Rattle.symbols.specs.Arrays.{heads, put_symbol, put_link, has_space}
use Rattle.symbols.specs.Searches.{followed, sought, found}
use Rattle.symbols.specs.Interning.{is_new, interned, words_after, links_after, Interns}

-- what room is
pub record Room (words links : List ℕ) (n : ℕ) : Type 0 where
  pub few : n < 65535
  pub place : 4 * n + 3 < length words
  pub link : heads + 2 * n + 1 < length links

pub room_tells : (words links : List ℕ) (n : ℕ) → has_space words links n ≡ true → Room words links n
unfolding has_space
room_tells words links n e =
    let r = and_right (ltb n 65535) _ e in
    record {
      few = ltb-true n 65535 (and_left (ltb n 65535) _ e);
      place = ltb-true (4 * n + 3) (length words) (and_left (ltb (4 * n + 3) (length words)) _ r);
      link = ltb-true (heads + 2 * n + 1) (length links) (and_right (ltb (4 * n + 3) (length words)) _ r);
    }

pub room_is : (words links : List ℕ) (n : ℕ) → Room words links n → has_space words links n ≡ true
unfolding has_space
room_is words links n r = rw (lt-ltb _ _ r.few, lt-ltb _ _ r.place, lt-ltb _ _ r.link)

-- arrays with room for `most` symbols
pub room_sized : (words links : List ℕ) (most n : ℕ) → most ≤ 65535 → 4 * most ≤ length words → heads + 2 * most ≤ length links → n < most
    → has_space words links n ≡ true
room_sized words links most n a b d h = room_is words links n (record { few = omega arith; place = omega arith; link = omega arith })

module _ (words links : List ℕ) (k : Symbol) (at : ℕ) (is : at ≡ sought words links k) where
  pub found_some : 0 < at → at - 1 ≡ found words links k
  unfolding found
  found_some h = rw (← is, ne_eqb at 0 (λ q. omega arith))

  pub found_none : at ≡ 0 → no_id ≡ found words links k
  unfolding found
  found_none e = rw (← is, eq-eqb at 0 e)

  module _ (n : ℕ) where
    -- nothing new
    old : is_new words links n k ≡ false → (id : ℕ) → id ≡ found words links k → Interns words links words links n k (record { id = id; count = n })
    unfolding interned words_after links_after
    old e id q = record { answer = rw (e, q); words = rw e; links = rw e }

    pub intern_some : 0 < at → Interns words links words links n k (record { id = at - 1; count = n })
    unfolding is_new
    intern_some h = old (rw (← is, ne_eqb at 0 (λ q. omega arith))) (at - 1) (found_some h)

    pub intern_full : at ≡ 0 → has_space words links n ≡ false → Interns words links words links n k (record { id = no_id; count = n })
    unfolding is_new
    intern_full z f = old (rw (f, and_false (eqb (sought words links k) 0))) no_id (found_none z)

    pub intern_new : at ≡ 0 → has_space words links n ≡ true → (after later : List ℕ) (p : ℕ) → after ≡ put_symbol words n k → p ≡ (followed words links k).place
        → later ≡ put_link links n p → Interns words links after later n k (record { id = n; count = n + 1 })
    unfolding is_new interned words_after links_after
    intern_new z f after later p e' b q =
        let e : (eqb (sought words links k) 0 && has_space words links n) ≡ true = rw (← is, eq-eqb at 0 z, f) in
        record { answer = rw e; words = rw (e, e'); links = rw (e, q, b) }

-- the arrays keep their lengths
module _ (words links : List ℕ) (n : ℕ) (k : Symbol) where
  pub words_size : length (words_after words links n k) ≡ length words
  unfolding words_after put_symbol
  words_size = go (is_new words links n k)
    where
      go : (t : Bool) → length (cond t (put_symbol words n k) words) ≡ length words
      go true = simp length-set
      go false = refl

  pub links_size : length (links_after words links n k) ≡ length links
  unfolding links_after put_link
  links_size = go (is_new words links n k)
    where
      go : (t : Bool) → length (cond t (put_link links n (followed words links k).place) links) ≡ length links
      go true = simp length-set
      go false = refl
