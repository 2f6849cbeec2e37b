-- The last number that passes a test.
use mathlib.Core.Path.{◌≡◌, refl, sym, ◌∙◌}
use mathlib.Core.Bool.{Bool, true, false, cond}
use Prim.Native.Nat.{ℕ, zero, suc, ◌+◌, ◌-◌, ◌≤◌, ◌<◌}
use native.Mathlib.Omega.{arith}
use native.Mathlib.Decide.{ℕ_discrete}
use lib.Dec.{ltb}
use borrow.Author.Tests.{ltb-true, ltb-false}
use Rattle.laws.specs.Prefix.{last_with}
use Rattle.laws.proofs.Cases.{bool_cases, false≢true, false_of}

module _ (f : ℕ → Bool) where
  -- what the last number that passes is, of n
  pub record Last (n at : ℕ) : Type 0 where
    pub within : at ≤ n
    pub hit : (i : ℕ) → at ≡ i + 1 → f i ≡ true
    pub none : (j : ℕ) → at ≤ j → j < n → f j ≡ false

  last_step : (n : ℕ) (t : Bool) → f n ≡ t → Last n (last_with f n) → Last (suc n) (cond t (suc n) (last_with f n))
  last_step n true e w =
      record {
        within = omega arith;
        hit = λ i q. let k : n ≡ i = omega arith in rw k at e;
        none = λ j p q. absurd (omega arith);
      }
  last_step n false e w =
      record {
        within = omega (arith, w.within);
        hit = λ i q. w.hit i q;
        none = λ j p q. below j p q (ℕ_discrete j n);
      }
    where
      below : (j : ℕ) → last_with f n ≤ j → j < suc n → Dec (j ≡ n) → f j ≡ false
      below j p q (yes z) = rw z e
      below j p q (no z) = w.none j p (omega (arith, z))

  pub last_tells : (n : ℕ) → Last n (last_with f n)
  unfolding last_with
  last_tells zero = record { within = omega arith; hit = λ i q. absurd (omega arith); none = λ j p q. absurd (omega arith) }
  last_tells (suc n) = last_step n (f n) refl (last_tells n)

  pub last_here : (i : ℕ) → f i ≡ true → last_with f (i + 1) ≡ i + 1
  unfolding last_with
  last_here i e = let k : i + 1 ≡ suc i = omega arith in rw (k, e)

  pub last_past : (i : ℕ) → f i ≡ false → last_with f (i + 1) ≡ last_with f i
  unfolding last_with
  last_past i e = let k : i + 1 ≡ suc i = omega arith in rw (k, e)

  -- the last of n is at i where i passes and none after it does
  pub last_is : (i n : ℕ) → i < n → f i ≡ true → ((j : ℕ) → i < j → j < n → f j ≡ false) → last_with f n ≡ i + 1
  last_is i n p e none =
      let w = last_tells n in
      let m : ℕ = last_with f n - 1 in
      bool_cases (ltb i (last_with f n))
      (λ q. bool_cases (ltb i m)
      (λ r. absurd (false≢true (sym (none m (ltb-true i m r) (omega (arith, ltb-true i (last_with f n) q, w.within))) ∙ w.hit m
      (omega (arith, ltb-true i (last_with f n) q)))))
      (λ r. omega (arith, ltb-true i (last_with f n) q, ltb-false i m r)))
      (λ q. absurd (false≢true (sym (w.none i (ltb-false i (last_with f n) q) p) ∙ e)))

-- a test that holds only where another does
pub last_through : (f g : ℕ → Bool) (n : ℕ) → ((i : ℕ) → i < n → f i ≡ true → g i ≡ true) → last_with f (last_with g n) ≡ last_with f n
unfolding last_with
last_through f g zero h = refl
last_through f g (suc n) h = go (g n) refl (last_through f g n (λ i p. h i (omega arith)))
  where
    go : (t : Bool) → g n ≡ t → last_with f (last_with g n) ≡ last_with f n → last_with f (cond t (suc n) (last_with g n)) ≡ last_with f (suc n)
    go true e r = refl
    go false e r = r ∙ rw (false_of (f n) (λ q. false≢true (sym e ∙ h n (omega arith) q)))

-- tests that agree
pub last_same : (f g : ℕ → Bool) (n : ℕ) → ((i : ℕ) → i < n → f i ≡ g i) → last_with f n ≡ last_with g n
unfolding last_with
last_same f g zero h = refl
last_same f g (suc n) h = rw (h n (omega arith), last_same f g n (λ i p. h i (omega arith)))
