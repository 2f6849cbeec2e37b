-- How many numbers pass a test, and whether one does.
use mathlib.Core.Path.{◌≡◌, refl, ap, sym, ◌∙◌}
use mathlib.Core.Bool.{Bool, true, false, not, cond, ◌&&◌, ◌||◌}
use Prim.Native.Nat.{ℕ, zero, suc, ◌+◌, ◌≤◌, ◌<◌}
use native.Mathlib.Omega.{arith}
use native.Mathlib.Numerals.{add-one}
use native.Mathlib.Decide.{ℕ_discrete}
use lib.Dec.{eqb, ltb}
use borrow.Author.Tests.{eq-eqb, ne_eqb, lt-ltb}
use Rattle.laws.specs.Prefix.{last_with, count_with, any_with, flag}
use Rattle.laws.proofs.Cases.{false≢true}

module _ (f : ℕ → Bool) where
  pub count_more : (i : ℕ) → count_with f (i + 1) ≡ count_with f i + flag (f i)
  unfolding count_with
  count_more i = rw (add-one i) (go (f i))
    where
      go : (t : Bool) → cond t (suc (count_with f i)) (count_with f i) ≡ count_with f i + flag t
      go true = omega arith
      go false = omega arith

  pub last_more : (i : ℕ) → last_with f (i + 1) ≡ cond (f i) (i + 1) (last_with f i)
  unfolding last_with
  last_more i = rw (add-one i)

  pub count_within : (n : ℕ) → count_with f n ≤ n
  unfolding count_with
  count_within zero = omega arith
  count_within (suc n) = go (f n) (count_within n)
    where
      go : (t : Bool) → count_with f n ≤ n → cond t (suc (count_with f n)) (count_with f n) ≤ suc n
      go true h = omega arith
      go false h = omega arith

  -- one passes just where the count isn't 0
  pub any_count : (n : ℕ) → any_with f n ≡ ltb 0 (count_with f n)
  unfolding any_with count_with
  any_count zero = refl
  any_count (suc n) = go (f n) (any_count n)
    where
      go : (t : Bool) → any_with f n ≡ ltb 0 (count_with f n) → (t || any_with f n) ≡ ltb 0 (cond t (suc (count_with f n)) (count_with f n))
      go true h = sym (lt-ltb 0 (suc (count_with f n)) (omega arith))
      go false h = h

  pub count_some : (i n : ℕ) → i < n → f i ≡ true → 0 < count_with f n
  unfolding count_with
  count_some i zero h e = absurd (omega arith)
  count_some i (suc n) h e = go (ℕ_discrete i n) (λ q. count_some i n q e)
    where
      either : (t : Bool) → 0 < count_with f n → 0 < cond t (suc (count_with f n)) (count_with f n)
      either true q = omega arith
      either false q = q

      go : Dec (i ≡ n) → (i < n → 0 < count_with f n) → 0 < cond (f n) (suc (count_with f n)) (count_with f n)
      go (yes z) r = let o : f n ≡ true = ap f (sym z) ∙ e in rw o (omega arith)
      go (no z) r = either (f n) (r (omega (arith, z)))

module _ (f g : ℕ → Bool) where
  pub count_same : (n : ℕ) → ((i : ℕ) → i < n → f i ≡ g i) → count_with f n ≡ count_with g n
  unfolding count_with
  count_same zero h = refl
  count_same (suc n) h = rw (h n (omega arith), count_same n (λ i p. h i (omega arith)))

  pub any_with_same : (n : ℕ) → ((i : ℕ) → i < n → f i ≡ g i) → any_with f n ≡ any_with g n
  unfolding any_with
  any_with_same zero h = refl
  any_with_same (suc n) h = rw (h n (omega arith), any_with_same n (λ i p. h i (omega arith)))

  -- of two tests that never hold together
  pub count_or : (n : ℕ) → ((i : ℕ) → i < n → (f i && g i) ≡ false) → count_with (λ i. f i || g i) n ≡ count_with f n + count_with g n
  unfolding count_with
  count_or zero h = refl
  count_or (suc n) h = go (f n) (g n) (h n (omega arith)) (count_or n (λ i p. h i (omega arith)))
    where
      go : (s t : Bool) → (s && t) ≡ false → count_with (λ i. f i || g i) n ≡ count_with f n + count_with g n
          → cond (s || t) (suc (count_with (λ i. f i || g i) n)) (count_with (λ i. f i || g i) n)
          ≡ cond s (suc (count_with f n)) (count_with f n) + cond t (suc (count_with g n)) (count_with g n)
      go true true e r = let z : ◌≡◌ {A = ℕ} 0 1 = cc in absurd (omega arith)
      go true false e r = omega arith
      go false true e r = omega arith
      go false false e r = r

  pub any_or : (n : ℕ) → any_with (λ i. f i || g i) n ≡ (any_with f n || any_with g n)
  unfolding any_with
  any_or zero = refl
  any_or (suc n) = go (f n) (g n) (any_with f n) (any_with g n) (any_or n)
    where
      go : (s t a b : Bool) → {r : Bool} → r ≡ (a || b) → (s || t || r) ≡ ((s || a) || (t || b))
      go true t a b e = refl
      go false true true b e = refl
      go false true false b e = refl
      go false false a b e = e

less_suc : (m : ℕ) → ltb 0 m ≡ ltb 1 (suc m)
less_suc zero = refl
less_suc (suc m) = lt-ltb 0 (suc m) (omega arith) ∙ sym (lt-ltb 1 (suc (suc m)) (omega arith))

-- another number than i passes, where i does, just where the count is over 1
module _ (f : ℕ → Bool) (i : ℕ) (own : f i ≡ true) where
  abbrev other : ℕ → Bool
  other j = not (eqb i j) && f j

  pub others_count : (n : ℕ) → i < n → any_with other n ≡ ltb 1 (count_with f n)
  unfolding any_with count_with
  others_count zero h = absurd (omega arith)
  others_count (suc n) h = go (ℕ_discrete i n) (λ q. others_count n q)
    where
      before : i ≡ n → any_with other n ≡ ltb 0 (count_with f n)
      before e = any_with_same other f n (λ j p. rw (ne_eqb i j (λ q. omega arith))) ∙ any_count f n

      later : (t : Bool) → any_with other n ≡ ltb 1 (count_with f n) → 0 < count_with f n → (t || any_with other n) ≡ ltb 1
          (cond t (suc (count_with f n)) (count_with f n))
      later true r s = sym (lt-ltb 1 (suc (count_with f n)) (omega arith))
      later false r s = r

      go : Dec (i ≡ n) → (i < n → any_with other n ≡ ltb 1 (count_with f n)) → ((not (eqb i n) && f n) || any_with other n) ≡ ltb 1
          (cond (f n) (suc (count_with f n)) (count_with f n))
      go (yes e) r = let o : f n ≡ true = ap f (sym e) ∙ own in rw (eq-eqb i n e, o) (before e ∙ less_suc (count_with f n))
      go (no z) r = rw (ne_eqb i n z) (later (f n) (r (omega (arith, z))) (count_some f i n (omega (arith, z)) own))

-- none passes
pub any_none : (n : ℕ) (f : ℕ → Bool) → ((i : ℕ) → i < n → f i ≡ false) → any_with f n ≡ false
unfolding any_with
any_none zero f h = refl
any_none (suc n) f h = rw (h n (omega arith), any_none n f (λ i p. h i (omega arith)))

-- one passes
pub any_one : (n i : ℕ) (f : ℕ → Bool) → i < n → f i ≡ true → any_with f n ≡ true
any_one n i f h e = any_count f n ∙ lt-ltb 0 (count_with f n) (count_some f i n h e)

-- which
pub any_which : (n : ℕ) (f : ℕ → Bool) → any_with f n ≡ true → (i : ℕ) × (i < n) × (f i ≡ true)
unfolding any_with
any_which zero f e = absurd (false≢true e)
any_which (suc n) f e = go (f n) refl e (λ q. any_which n f q)
  where
    go : (t : Bool) → f n ≡ t → (t || any_with f n) ≡ true → (any_with f n ≡ true → (i : ℕ) × (i < n) × (f i ≡ true)) → (i : ℕ) × (i < suc n) × (f i ≡ true)
    go true p q r = (n, omega arith, p)
    go false p q r = let w = r q in (w.0, omega (arith, w.1), w.2)
