-- What is found is on its side of the value, and no other element there is nearer; where nothing is found,
-- none is there.
use mathlib.Core.Path.{◌≡◌, sym, ◌∙◌}
use mathlib.Core.Bool.{true, false}
use mathlib.Core.List.{List}
use Prim.Native.Nat.{ℕ, zero, suc, ◌<◌}
use native.Mathlib.Decide.{ℕ_discrete}
use native.Mathlib.Omega.{arith}
use lib.IntN.{ℤ, pos}
use lib.ListN.{length, get_or}
use Rattle.laws.proofs.Cases.{cond_cases, false≢true, false_of}
use Rattle.calibration.specs.Nearest.{passes, nearer, closer, better, nearest_of, not_above, below, above}
use Rattle.std.specs.Prelude.{Option, Some, None}
use Rattle.calibration.specs.declared.nearest.Side.{Side}
use Rattle.calibration.specs.declared.nearest.Side.TheVariants.{NotAbove, Below, Above}
use Rattle.calibration.proofs.OrderLaws.{nearer_trans, nearer_irrefl}

-- of the first n elements, the one at i is on this side of v, and none on this side is nearer; or none is on this side
abbrev pub Nearest : Side → List ℤ → ℤ → ℕ → Option ℕ → Type 0
Nearest side xs v n (Some i) =
    (i < n)
    × (passes side v (get_or xs i (pos 0)) ≡ true)
    × ((k : ℕ) → k < n → passes side v (get_or xs k (pos 0)) ≡ true → nearer side (get_or xs k (pos 0)) (get_or xs i (pos 0)) ≡ false)
Nearest side xs v n None = (k : ℕ) → k < n → passes side v (get_or xs k (pos 0)) ≡ true → ⊥

-- a claim of the first n and of n, of the first n + 1
more : {n : ℕ} (P : ℕ → Type 0) → ((k : ℕ) → k < n → P k) → P n → (k : ℕ) → k < suc n → P k
more {n} P f p k h = by (ℕ_discrete k n)
  where
    by : Dec (k ≡ n) → P k
    by (yes e) = rw e p
    by (no e) = f k (omega arith)

module _ (side : Side) (xs : List ℤ) (v : ℤ) (n : ℕ) where
  -- an element on the other side
  off : (b : Option ℕ) → Nearest side xs v n b → passes side v (get_or xs n (pos 0)) ≡ false → Nearest side xs v (suc n) b
  off (Some i) g h = (omega (arith, g.0), g.1, more _ g.2 (λ l. absurd (false≢true (sym h ∙ l))))
  off None g h = more _ g (λ l. absurd (false≢true (sym h ∙ l)))

  -- an element on this side
  on : (b : Option ℕ) → Nearest side xs v n b → passes side v (get_or xs n (pos 0)) ≡ true → Nearest side xs v (suc n) (closer side xs b n)
  unfolding closer
  on None g h = (omega arith, h, more _ (λ k l m. absurd (g k l m)) (λ _. nearer_irrefl side (get_or xs n (pos 0))))
  on (Some i) g h =
      cond_cases (Nearest side xs v (suc n)) (nearer side (get_or xs n (pos 0)) (get_or xs i (pos 0)))
      (λ e. (
        omega arith,
        h,
        more _
            (λ k l m. false_of (nearer side (get_or xs k (pos 0)) (get_or xs n (pos 0)))
            (λ f. false≢true (sym (g.2 k l m) ∙ nearer_trans side (get_or xs k (pos 0)) (get_or xs n (pos 0)) (get_or xs i (pos 0)) f e)))
            (λ _. nearer_irrefl side (get_or xs n (pos 0))),
      ))
      (λ e. (omega (arith, g.0), g.1, more _ g.2 (λ _. e)))

pub nearest : (side : Side) (xs : List ℤ) (v : ℤ) (n : ℕ) → Nearest side xs v n (nearest_of side xs v n)
unfolding nearest_of better
nearest side xs v zero = λ k h l. absurd (omega arith)
nearest side xs v (suc n) =
    let g = nearest side xs v n in
    cond_cases (Nearest side xs v (suc n)) (passes side v (get_or xs n (pos 0))) (on side xs v n (nearest_of side xs v n) g)
    (off side xs v n (nearest_of side xs v n) g)

module _ (xs : List ℤ) (v : ℤ) where
  pub not_above_nearest : Nearest NotAbove xs v (length xs) (not_above xs v)
  unfolding not_above
  not_above_nearest = nearest NotAbove xs v (length xs)

  pub below_nearest : Nearest Below xs v (length xs) (below xs v)
  unfolding below
  below_nearest = nearest Below xs v (length xs)

  pub above_nearest : Nearest Above xs v (length xs) (above xs v)
  unfolding above
  above_nearest = nearest Above xs v (length xs)
