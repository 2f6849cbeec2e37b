-- The raw values of occurrences: those of all, or the refusal of the first that has one.
use mathlib.Core.Path.{◌≡◌, refl, sym, ap, ◌∙◌}
use mathlib.Core.List.Memᴰ
use mathlib.Core.List.{List, ◌∷◌, Memᴰ}
use Prim.Native.Nat.{ℕ, zero, suc, ◌+◌, ◌≤◌, ◌<◌}
use native.Mathlib.Decide.{ℕ_discrete}
use native.Mathlib.Omega.{arith}
use lib.IntN.{ℤ}
use Rattle.outcomes.specs.Outcome.{Outcome, answer, refused, and_then}
use Rattle.outcomes.specs.Values.{Value}
use Rattle.occurrences.specs.Values.{occurrences_from, integer_in, raws_of}

-- what holds of k and of all after it
from_next : (P : ℕ → Type 0) (k : ℕ) → P k → (j : ℕ) → (suc k ≤ j → P j) → k ≤ j → P j
from_next P k p j f h = by (ℕ_discrete j k)
  where
    by : Dec (j ≡ k) → P j
    by (yes e) = rw e p
    by (no e) = f (omega arith)

module _ (raw : ℕ → Outcome Value) where
  abbrev pub integer_at : ℕ → Outcome ℤ
  integer_at k = and_then (raw k) integer_in

  -- n occurrences from k on have these values
  pub record Each (k n : ℕ) (zs : List ℤ) : Type 0 where
    pub has : (j : ℕ) → k ≤ j → j < k + n → (z : ℤ) × (integer_at j ≡ answer z) × Memᴰ z zs
    pub of : {z : ℤ} → Memᴰ z zs → (j : ℕ) × (k ≤ j) × (j < k + n) × (integer_at j ≡ answer z)

  -- the first of them that is refused
  pub record Stopped (k n number place : ℕ) : Type 0 where
    pub at : ℕ
    pub from : k ≤ at
    pub below : at < k + n
    pub is : integer_at at ≡ refused number place
    pub before : (j : ℕ) → k ≤ j → j < at → (z : ℤ) × (integer_at j ≡ answer z)

  abbrev pub Raws : (k n : ℕ) → Outcome (List ℤ) → Type 0
  Raws k n (answer zs) = Each k n zs
  Raws k n (refused number place) = Stopped k n number place

  of_more : (k n : ℕ) (z : ℤ) (zs : List ℤ) → integer_at k ≡ answer z → Each (suc k) n zs → {x : ℤ} → Memᴰ x (z ∷ zs)
      → (j : ℕ) × (k ≤ j) × (j < k + suc n) × (integer_at j ≡ answer x)
  of_more k n z zs e h (Memᴰ.head q) = (k, omega arith, omega arith, e ∙ ap (λ (y : ℤ). answer y) (sym q))
  of_more k n z zs e h (Memᴰ.tail m) = let w = h.of m in (w.0, omega (arith, w.1), omega (arith, w.2), w.3)

  more : (k n : ℕ) (o : Outcome ℤ) → integer_at k ≡ o → (r : Outcome (List ℤ)) → Raws (suc k) n r
      → Raws k (suc n) (and_then o (λ z. and_then r (λ zs. answer (z ∷ zs))))
  unfolding and_then
  more k n (refused number place) e r h = record { at = k; from = omega arith; below = omega arith; is = e; before = λ j a b. absurd (omega arith) }
  more k n (answer z) e (refused number place) h =
      record {
        at = h.at;
        from = omega (arith, h.from);
        below = omega (arith, h.below);
        is = h.is;
        before = λ j a b. from_next (λ (j : ℕ). j < h.at → (z : ℤ) × (integer_at j ≡ answer z)) k (λ _. (z, e)) j (λ l b. h.before j l b) a b;
      }
  more k n (answer z) e (answer zs) h =
      record {
        has = λ j a b.
            from_next (λ (j : ℕ). j < k + suc n → (x : ℤ) × (integer_at j ≡ answer x) × Memᴰ x (z ∷ zs)) k (λ _. (z, e, Memᴰ.head refl)) j
            (λ l b. let w = h.has j l (omega (arith, b)) in (w.0, w.1, Memᴰ.tail w.2)) a b;
        of = of_more k n z zs e h;
      }

  pub raws_are : (k n : ℕ) → Raws k n (raws_of raw (occurrences_from k n))
  unfolding raws_of occurrences_from
  raws_are k zero = record { has = λ j a b. absurd (omega arith); of = λ m. absurd (Memᴰ.not-nil m) }
  raws_are k (suc n) = more k n (integer_at k) refl (raws_of raw (occurrences_from (suc k) n)) (raws_are (suc k) n)
