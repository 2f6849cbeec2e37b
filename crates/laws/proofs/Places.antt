-- Tests of a list's elements as tests of its places.
use mathlib.Core.Path.{◌≡◌, refl, ap, sym, ◌∙◌}
use mathlib.Core.Bool.{Bool, true, false, cond, ◌||◌}
use mathlib.Core.List.{List, [], ◌∷◌, map}
use Prim.Native.Nat.{ℕ, zero, suc, ◌+◌, ◌≤◌, ◌<◌}
use native.Mathlib.Omega.{arith}
use native.Mathlib.Decide.{ℕ_discrete}
use lib.ListN.{length, get_or}
use Rattle.laws.specs.Lists.{any, keep}
use Rattle.laws.specs.Prefix.{count_with, any_with, all_from}
use Rattle.laws.proofs.Cases.{false_of}

module _ (g : ℕ → Bool) where
  any_front : (n : ℕ) → any_with g (suc n) ≡ (g 0 || any_with (λ i. g (suc i)) n)
  unfolding any_with
  any_front zero = refl
  any_front (suc n) = rw (any_front n) (swap (g (suc n)) (g 0) (any_with (λ i. g (suc i)) n))
    where
      swap : (a b r : Bool) → (a || (b || r)) ≡ (b || (a || r))
      swap true true r = refl
      swap true false r = refl
      swap false true r = refl
      swap false false r = refl

  count_front : (n : ℕ) → count_with g (suc n) ≡ cond (g 0) (suc (count_with (λ i. g (suc i)) n)) (count_with (λ i. g (suc i)) n)
  unfolding count_with
  count_front zero = refl
  count_front (suc n) = rw (count_front n) (swap (g (suc n)) (g 0) (count_with (λ i. g (suc i)) n))
    where
      swap : (a b : Bool) (r : ℕ) → cond a (suc (cond b (suc r) r)) (cond b (suc r) r) ≡ cond b (suc (cond a (suc r) r)) (cond a (suc r) r)
      swap true true r = refl
      swap true false r = refl
      swap false true r = refl
      swap false false r = refl

module _ {A : Type 0} (d : A) (f : A → Bool) where
  pub any_places : (l : List A) → any f l ≡ any_with (λ i. f (get_or l i d)) (length l)
  unfolding any_with
  any_places [] = refl
  any_places (a ∷ l) = ap (λ (t : Bool). f a || t) (any_places l) ∙ sym (any_front (λ i. f (get_or (a ∷ l) i d)) (length l))

  pub keep_places : (l : List A) → length (keep f l) ≡ count_with (λ i. f (get_or l i d)) (length l)
  unfolding count_with
  keep_places [] = refl
  keep_places (a ∷ l) = go (f a) (keep_places l) ∙ sym (count_front (λ i. f (get_or (a ∷ l) i d)) (length l))
    where
      go : (t : Bool) → length (keep f l) ≡ count_with (λ i. f (get_or l i d)) (length l) → length (cond t (a ∷ keep f l) (keep f l)) ≡ cond t
          (suc (count_with (λ i. f (get_or l i d)) (length l))) (count_with (λ i. f (get_or l i d)) (length l))
      go true e = ap suc e
      go false e = e

  -- the elements that pass stand at the places that pass
  all_up : (g : ℕ → Bool) (lo n : ℕ) (a : A) (l : List A) → map (λ i. get_or (a ∷ l) i d) (all_from g (suc lo) n) ≡ map (λ i. get_or l i d)
      (all_from (λ i. g (suc i)) lo n)
  unfolding all_from
  all_up g lo zero a l = refl
  all_up g lo (suc n) a l = let r : suc lo + 1 ≡ suc (lo + 1) = omega arith in rw r (go (g (suc lo)) (all_up g (lo + 1) n a l))
    where
      go : (t : Bool) → map (λ i. get_or (a ∷ l) i d) (all_from g (suc (lo + 1)) n) ≡ map (λ i. get_or l i d) (all_from (λ i. g (suc i)) (lo + 1) n)
          → map (λ i. get_or (a ∷ l) i d) (cond t (suc lo ∷ all_from g (suc (lo + 1)) n) (all_from g (suc (lo + 1)) n))
          ≡ map (λ i. get_or l i d) (cond t (lo ∷ all_from (λ i. g (suc i)) (lo + 1) n) (all_from (λ i. g (suc i)) (lo + 1) n))
      go true e = ap (λ (m : List A). get_or l lo d ∷ m) e
      go false e = e

  pub keep_all : (l : List A) → keep f l ≡ map (λ i. get_or l i d) (all_from (λ i. f (get_or l i d)) 0 (length l))
  unfolding all_from
  keep_all [] = refl
  keep_all (a ∷ l) = go (f a) (keep_all l ∙ sym (all_up (λ i. f (get_or (a ∷ l) i d)) 0 (length l) a l))
    where
      go : (t : Bool) → keep f l ≡ map (λ i. get_or (a ∷ l) i d) (all_from (λ i. f (get_or (a ∷ l) i d)) 1 (length l))
          → cond t (a ∷ keep f l) (keep f l)
          ≡ map (λ i. get_or (a ∷ l) i d) (cond t (0 ∷ all_from (λ i. f (get_or (a ∷ l) i d)) (0 + 1) (length l))
          (all_from (λ i. f (get_or (a ∷ l) i d)) (0 + 1) (length l)))
      go true e = ap (λ (m : List A). a ∷ m) e
      go false e = e

-- tests that agree
pub all_same : (f g : ℕ → Bool) (lo n : ℕ) → ((i : ℕ) → lo ≤ i → i < lo + n → f i ≡ g i) → all_from f lo n ≡ all_from g lo n
unfolding all_from
all_same f g lo zero h = refl
all_same f g lo (suc n) h = rw (h lo (omega arith) (omega arith), all_same f g (lo + 1) n (λ i p q. h i (omega arith) (omega arith)))

-- none passes
pub all_none : (f : ℕ → Bool) (lo n : ℕ) → ((i : ℕ) → lo ≤ i → i < lo + n → f i ≡ false) → all_from f lo n ≡ []
unfolding all_from
all_none f lo zero h = refl
all_none f lo (suc n) h = rw (h lo (omega arith) (omega arith)) (all_none f (lo + 1) n (λ i p q. h i (omega arith) (omega arith)))

-- one passes
pub all_one : (f : ℕ → Bool) (lo n j : ℕ) → lo ≤ j → j < lo + n → f j ≡ true → ((i : ℕ) → lo ≤ i → i < lo + n → f i ≡ true → i ≡ j) → all_from f lo n ≡ j ∷ []
unfolding all_from
all_one f lo zero j a b e h = absurd (omega arith)
all_one f lo (suc n) j a b e h =
    go (ℕ_discrete lo j) (λ z. all_one f (lo + 1) n j (omega (arith, z)) (omega arith) e (λ i p q r. h i (omega arith) (omega arith) r))
  where
    go : Dec (lo ≡ j) → ((lo ≡ j → ⊥) → all_from f (lo + 1) n ≡ j ∷ []) → cond (f lo) (lo ∷ all_from f (lo + 1) n) (all_from f (lo + 1) n) ≡ j ∷ []
    go (yes z) r =
        let o : f lo ≡ true = ap f z ∙ e in
        let m : all_from f (lo + 1) n ≡ [] = all_none f (lo + 1) n (λ i p q. false_of (f i) (λ s. omega (arith, h i (omega arith) (omega arith) s))) in
        rw (o, m) (ap (λ (k : ℕ). k ∷ []) z)
    go (no z) r = rw (false_of (f lo) (λ s. z (h lo (omega arith) (omega arith) s))) (r z)
