-- Zeros written one after the other.
use mathlib.Core.Path.{◌≡◌, refl, ap, sym, ◌∙◌}
use mathlib.Core.List.{List}
use Prim.Native.Nat.{ℕ, ◌+◌, ◌≤◌, ◌<◌}
use native.Mathlib.Omega.{arith}
use native.Mathlib.Decide.{ℕ_discrete}
use lib.ListN.{length, get_or, set, replicate, length-set, length-replicate, get_or-replicate}
use lib.Seq.{get_or-set_same, get_or-set_other, ext_get_or}

-- the first i elements are 0
pub record Cleared (size i : ℕ) (xs : List ℕ) : Type 0 where
  pub within : i ≤ size
  pub long : length xs ≡ size
  pub at : (j : ℕ) → j < i → get_or xs j 0 ≡ 0

pub cleared_none : (xs : List ℕ) → Cleared (length xs) 0 xs
cleared_none xs = record { within = omega arith; long = refl; at = λ j h. absurd (omega arith) }

module _ {size i : ℕ} (xs : List ℕ) (w : Cleared size i xs) where
  pub cleared_more : i < size → Cleared size (i + 1) (set xs i 0)
  cleared_more h =
      record { within = omega arith; long = length-set xs i 0 ∙ w.long; at = λ j p. go j p (ℕ_discrete j i) }
    where
      go : (j : ℕ) → j < i + 1 → Dec (j ≡ i) → get_or (set xs i 0) j 0 ≡ 0
      go j p (yes e) = ap (λ (k : ℕ). get_or (set xs i 0) k 0) e ∙ get_or-set_same xs i 0 0 (omega (arith, w.long))
      go j p (no z) = get_or-set_other xs i j 0 0 z ∙ w.at j (omega (arith, z))

  pub cleared_all : size ≤ i → xs ≡ replicate size 0
  cleared_all h =
      let l = length-replicate {A = ℕ} size 0 in
      ext_get_or 0 xs (replicate size 0) (w.long ∙ sym l)
      (λ j p. w.at j (omega (arith, w.long)) ∙ sym (get_or-replicate {A = ℕ} size j 0 0 (omega (arith, w.long))))
