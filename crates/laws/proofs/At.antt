-- Tests over a list by the places at which they hold.
use mathlib.Core.Path.{◌≡◌, refl, ap, sym}
use mathlib.Core.Bool.{Bool, true, false}
use mathlib.Core.List.{List, [], ◌∷◌, Memᴰ}
use Prim.Native.Nat.{ℕ, zero, suc, ◌<◌}
use native.Mathlib.Omega.{arith}
use lib.ListN.{length, get_or}
use Rattle.laws.specs.Lists.{any, keep}
use Rattle.laws.proofs.Lists.{at_mem}
use Rattle.laws.proofs.Tests.{any_mem, any_witness}

-- two tests that are true together are equal
pub same_test : (a b : Bool) → (a ≡ true → b ≡ true) → (b ≡ true → a ≡ true) → a ≡ b
same_test true b f g = sym (f refl)
same_test false true f g = g refl
same_test false false f g = refl

module _ {A : Type 0} (d : A) where
  -- a place of a list at which a test holds
  pub record Place (f : A → Bool) (l : List A) : Type 0 where
    pub at : ℕ
    pub below : at < length l
    pub holds : f (get_or l at d) ≡ true

  mem_place : (f : A → Bool) {a : A} {l : List A} → Memᴰ a l → f a ≡ true → Place f l
  mem_place f (Memᴰ.head e) t = record { at = 0; below = omega arith; holds = rw (← e) t }
  mem_place f (Memᴰ.tail m) t = let p = mem_place f m t in record { at = suc p.at; below = omega (arith, p.below); holds = p.holds }

  pub any_place : (f : A → Bool) (l : List A) → any f l ≡ true → Place f l
  any_place f l t = let w = any_witness f l t in mem_place f w.1 w.2

  pub place_any : (f : A → Bool) (l : List A) (k : ℕ) → k < length l → f (get_or l k d) ≡ true → any f l ≡ true
  place_any f l k h t = any_mem f (at_mem l k d h) t

  -- the only element that passes
  pub keep_none : (f : A → Bool) (l : List A) → ((k : ℕ) → k < length l → f (get_or l k d) ≡ false) → keep f l ≡ []
  keep_none f [] h = refl
  keep_none f (a ∷ l) h = rw (h 0 (omega arith)) (keep_none f l (λ k p. h (suc k) (omega arith)))

  pub keep_one : (f : A → Bool) (l : List A) (j : ℕ) → j < length l → f (get_or l j d) ≡ true
      → ((k : ℕ) → k < length l → f (get_or l k d) ≡ true → k ≡ j) → keep f l ≡ get_or l j d ∷ []
  keep_one f [] j h t u = absurd (omega arith)
  keep_one f (a ∷ l) zero h t u =
      rw t (ap (λ (k : List A). a ∷ k) (keep_none f l (λ k p. not_this k (f (get_or l k d)) refl (u (suc k) (omega arith)))))
    where
      not_this : (k : ℕ) (b : Bool) → f (get_or l k d) ≡ b → (f (get_or l k d) ≡ true → suc k ≡ 0) → b ≡ false
      not_this k true e v = absurd (omega (arith, v e))
      not_this k false e v = refl
  keep_one f (a ∷ l) (suc j) h t u =
      rw (first (f a) refl (u 0 (omega arith))) (keep_one f l j (omega arith) t (λ k p q. suc_is k (u (suc k) (omega arith) q)))
    where
      first : (b : Bool) → f a ≡ b → (f a ≡ true → 0 ≡ suc j) → b ≡ false
      first true e v = absurd (omega (arith, v e))
      first false e v = refl

      suc_is : (k : ℕ) → suc k ≡ suc j → k ≡ j
      suc_is k e = omega arith
