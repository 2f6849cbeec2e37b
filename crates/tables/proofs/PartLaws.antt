-- An array of slices filled one after the other.
use mathlib.Core.Path.{◌≡◌, refl, ap₂}
use mathlib.Core.List.{List, [], ◌∷◌, map}
use Prim.Native.Nat.{ℕ, zero, suc, ◌+◌, ◌<◌}
use native.Mathlib.Omega.{arith}
use native.Mathlib.Nat.{le_of_suc-le-suc, not-suc-le-zero}
use denote.Ref.{Bor}
use lib.ListN.{length, set}
use Rattle.laws.specs.Values.{tabulate}

module _ (f : ℕ → List ℕ) where
  -- the first n slices are the values of f from lo on
  unfoldable pub Filled : (lo n : ℕ) → List (Bor (List ℕ)) → Type 0
  Filled lo zero ts = Unit {0}
  Filled lo (suc n) [] = ⊥
  Filled lo (suc n) (t ∷ ts) = (t.now ≡ f lo) × Filled (lo + 1) n ts

  pub filled_none : (ts : List (Bor (List ℕ))) → Filled 0 0 ts
  unfolding Filled
  filled_none ts = tt

  pub filled_more : (lo n : ℕ) (ts : List (Bor (List ℕ))) (t : Bor (List ℕ)) → n < length ts → Filled lo n ts → t.now ≡ f (lo + n) → Filled lo (suc n)
      (set ts n t)
  unfolding Filled
  filled_more lo n [] t h w e = absurd (not-suc-le-zero h)
  filled_more lo zero (x ∷ ts) t h w e = let z : lo + 0 ≡ lo = omega arith in (rw z at e, tt)
  filled_more lo (suc n) (x ∷ ts) t h w e =
      let z : lo + suc n ≡ lo + 1 + n = omega arith in
      (w.0, filled_more (lo + 1) n ts t (le_of_suc-le-suc h) w.1 (rw z at e))

  pub filled_all : (lo n : ℕ) (ts : List (Bor (List ℕ))) → length ts ≡ n → Filled lo n ts → map (λ x. x.now) ts ≡ map f (tabulate (λ i. i) lo n)
  unfolding Filled tabulate
  filled_all lo zero [] e w = refl
  filled_all lo zero (t ∷ ts) e w = absurd (omega arith)
  filled_all lo (suc n) [] e w = absurd (omega arith)
  filled_all lo (suc n) (t ∷ ts) e w = ap₂ (λ (x : List ℕ) (l : List (List ℕ)). x ∷ l) w.0 (filled_all (lo + 1) n ts (omega arith) w.1)
