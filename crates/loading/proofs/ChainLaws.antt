-- What following the links meets, in so many steps: see `group_rows`, which has as many steps as there are rows.
use mathlib.Core.Path.{◌≡◌, refl, ap, ◌∙◌}
use mathlib.Core.Bool.{Bool, true, false, cond}
use mathlib.Core.List.{List, [], ◌∷◌}
use Prim.Native.Nat.{ℕ, zero, suc, ◌+◌, ◌-◌, ◌<◌}
use native.Mathlib.Omega.{arith}
use lib.ListN.{get_or, take}
use borrow.Author.Tests.{ne_eqb}
use Rattle.laws.specs.Prefix.{first_from, all_from}
use Rattle.passes.specs.Groups.{chain}

-- each number that passes leads to the next one
module _ (f : ℕ → Bool) (nexts : List ℕ) (n : ℕ) (linked : (j : ℕ) → j < n → f j ≡ true → get_or nexts j 0 ≡ first_from f 0 (j + 1) (n - (j + 1))) where
  pub chain_takes : (d lo steps : ℕ) → lo + d ≡ n → chain nexts steps (first_from f 0 lo d) ≡ take steps (all_from f lo d)
  unfolding first_from all_from chain
  chain_takes d lo zero e = refl
  chain_takes zero lo (suc steps) e = refl
  chain_takes (suc d) lo (suc steps) e =
      go (f lo) refl (chain_takes d (lo + 1) steps (omega arith)) (chain_takes d (lo + 1) (suc steps) (omega arith))
    where
      go : (t : Bool) → f lo ≡ t → chain nexts steps (first_from f 0 (lo + 1) d) ≡ take steps (all_from f (lo + 1) d)
          → chain nexts (suc steps) (first_from f 0 (lo + 1) d) ≡ take (suc steps) (all_from f (lo + 1) d)
          → chain nexts (suc steps) (cond t (lo + 1) (first_from f 0 (lo + 1) d)) ≡ take (suc steps) (cond t (lo ∷ all_from f (lo + 1) d) (all_from f (lo + 1) d))
      go true p r q =
          let a : lo + 1 - 1 ≡ lo = omega arith in
          let b : n - (lo + 1) ≡ d = omega arith in
          rw (ne_eqb (lo + 1) 0 (λ z. omega arith), a)
          (ap (λ (l : List ℕ). lo ∷ l) (ap (chain nexts steps) (linked lo (omega arith) p ∙ ap (first_from f 0 (lo + 1)) b) ∙ r))
      go false p r q = q

-- from nowhere
pub chain_none : (nexts : List ℕ) (steps : ℕ) → chain nexts steps 0 ≡ []
unfolding chain
chain_none nexts zero = refl
chain_none nexts (suc steps) = refl
