-- An array filled with values, one place of a list after the other, and its front then.
use mathlib.Core.Path.{◌≡◌, refl, sym, ap, ◌∙◌}
use mathlib.Core.List.{List, ◌++◌, map}
use Prim.Native.Nat.{ℕ, ◌+◌, ◌≤◌, ◌<◌}
use native.Mathlib.Omega.{arith}
use native.Mathlib.Numerals.{add-one}
use lib.ListN.{length, get_or, take, drop, set, drop_of_length-le, get_or-append}
use lib.Seq.{sets, sets-eq, length-sets, take_at}
use Rattle.laws.proofs.Lists.{split}

module _ {A : Type 0} (f : ℕ → A) (places : List ℕ) where
  -- xs is xs₀ with the values of the first i places: with those left it is xs₀ with all
  pub record Filling (xs₀ xs : List A) (i : ℕ) : Type 0 where
    pub left : sets xs i (map f (drop i places)) ≡ sets xs₀ 0 (map f places)

  pub fill_start : (xs : List A) → Filling xs xs 0
  fill_start xs = record { left = refl }

  pub fill_more : {xs₀ xs : List A} {i : ℕ} → Filling xs₀ xs i → i < length places → {v : A} → v ≡ f (get_or places i 0) → Filling xs₀ (set xs i v) (i + 1)
  fill_more {i = i} k h e = record { left = rw (e, add-one i) (rw (split places i 0 h, add-one i) at k.left) }

  pub fill_done : {xs₀ xs : List A} {i : ℕ} → Filling xs₀ xs i → length places ≤ i → xs ≡ sets xs₀ 0 (map f places)
  fill_done k h = rw (drop_of_length-le places h) at k.left

-- an array with these values at its front
module _ {A : Type 0} (xs₀ vs : List A) {xs : List A} (h : length vs ≤ length xs₀) (e : xs ≡ sets xs₀ 0 vs) where
  front_first : xs ≡ vs ++ drop (0 + length vs) xs₀
  front_first = e ∙ sets-eq vs xs₀ 0 (omega arith)

  pub front_is : (n : ℕ) → n ≡ length vs → take n xs ≡ vs
  front_is n k = ap (take n) front_first ∙ take_at vs _ n (sym k)

  pub front_at : (d : A) (i : ℕ) → i < length vs → get_or xs i d ≡ get_or vs i d
  front_at d i k = ap (λ (l : List A). get_or l i d) front_first ∙ get_or-append vs (drop (0 + length vs) xs₀) d i k

  pub front_long : length xs ≡ length xs₀
  front_long = ap length e ∙ length-sets xs₀ 0 vs
