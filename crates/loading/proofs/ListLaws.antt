-- Lists by the places of what passes a test.
use mathlib.Core.Path.{◌≡◌, refl, ap, ◌∙◌}
use mathlib.Core.Bool.{Bool, true, false, cond, ◌&&◌, ◌||◌}
use mathlib.Core.List.{List, [], ◌∷◌, map}
use Prim.Native.Nat.{ℕ, zero, suc, ◌+◌, ◌-◌, ◌≤◌, ◌<◌}
use native.Mathlib.Omega.{arith}
use lib.ListN.{length}
use Rattle.laws.specs.Lists.{keep, or_else}
use Rattle.laws.specs.Prefix.{last_with, all_from}
use Rattle.laws.proofs.Cases.{or_left, or_right, or_none}
use Rattle.laws.proofs.First.{or_else_zero}
use Rattle.laws.proofs.Last.{last_tells}

-- to keep of those that are kept is one test
pub keep_keep : {A : Type 0} (f g : A → Bool) (l : List A) → keep g (keep f l) ≡ keep (λ a. f a && g a) l
keep_keep f g [] = refl
keep_keep {A} f g (a ∷ l) = go (f a) (keep_keep f g l)
  where
    go : (t : Bool) → keep g (keep f l) ≡ keep (λ b. f b && g b) l
        → keep g (cond t (a ∷ keep f l) (keep f l)) ≡ cond (t && g a) (a ∷ keep (λ b. f b && g b) l) (keep (λ b. f b && g b) l)
    go true e = rw e
    go false e = e

module _ (f : ℕ → Bool) where
  -- functions that agree on the numbers
  pub map_all : {A : Type 0} (x y : ℕ → A) (lo n : ℕ) → ((i : ℕ) → lo ≤ i → i < lo + n → x i ≡ y i) → map x (all_from f lo n) ≡ map y (all_from f lo n)
  unfolding all_from
  map_all x y lo zero h = refl
  map_all {A} x y lo (suc n) h = go (f lo) (map_all x y (lo + 1) n (λ i p q. h i (omega arith) (omega arith)))
    where
      go : (t : Bool) → map x (all_from f (lo + 1) n) ≡ map y (all_from f (lo + 1) n)
          → map x (cond t (lo ∷ all_from f (lo + 1) n) (all_from f (lo + 1) n)) ≡ map y (cond t (lo ∷ all_from f (lo + 1) n) (all_from f (lo + 1) n))
      go true e = rw (h lo (omega arith) (omega arith)) (ap (λ (l : List A). y lo ∷ l) e)
      go false e = e

  -- numbers that pass and lie between a and b are at most so many as there are between them
  pub all_few : (a b lo n : ℕ) → ((i : ℕ) → lo ≤ i → i < lo + n → f i ≡ true → (a ≤ i) × (i < b)) → length (all_from f lo n) ≤ b - a - (lo - a)
  unfolding all_from
  all_few a b lo zero h = omega arith
  all_few a b lo (suc n) h = go (f lo) refl (all_few a b (lo + 1) n (λ i p q e. h i (omega arith) (omega arith) e))
    where
      go : (t : Bool) → f lo ≡ t → length (all_from f (lo + 1) n) ≤ b - a - (lo + 1 - a)
          → length (cond t (lo ∷ all_from f (lo + 1) n) (all_from f (lo + 1) n)) ≤ b - a - (lo - a)
      go true e r = let w = h lo (omega arith) (omega arith) e in omega (arith, w.0, w.1)
      go false e r = omega arith

-- `at` is 0 where none of the first n numbers passes, and else one more than one that does
pub record Hit (f : ℕ → Bool) (n at : ℕ) : Type 0 where
  pub none : at ≡ 0 → (i : ℕ) → i < n → f i ≡ false
  pub some : (i : ℕ) → at ≡ i + 1 → (i < n) × (f i ≡ true)

-- the last that passes one of two tests
pub hit_either : (f g : ℕ → Bool) (n : ℕ) → Hit (λ i. f i || g i) n (or_else (last_with g n) (last_with f n))
hit_either f g n = record { none = none; some = λ i e. some i (last_with g n) refl e }
  where
    none : or_else (last_with g n) (last_with f n) ≡ 0 → (i : ℕ) → i < n → (f i || g i) ≡ false
    none e i p =
        let s = or_else_zero (last_with g n) (last_with f n) e in
        or_none ((last_tells f n).none i (omega (arith, s.1)) p) ((last_tells g n).none i (omega (arith, s.0)) p)

    some : (i m : ℕ) → last_with g n ≡ m → or_else m (last_with f n) ≡ i + 1 → (i < n) × ((f i || g i) ≡ true)
    some i zero p e = let w = last_tells f n in (omega (arith, w.within), or_left (g i) (w.hit i e))
    some i (suc m) p e = let w = last_tells g n in (omega (arith, w.within), or_right (f i) (w.hit i (p ∙ e)))

-- tests that agree
pub hit_same : (f g : ℕ → Bool) (n at : ℕ) → ((i : ℕ) → i < n → f i ≡ g i) → Hit g n at → Hit f n at
hit_same f g n at h w =
    record { none = λ e i p. h i p ∙ w.none e i p; some = λ i e. let s = w.some i e in (s.0, h i s.0 ∙ s.1) }
