-- Steps along a chain, by what was read at each row.
use mathlib.Core.Path.{◌≡◌}
use mathlib.Core.Bool.{true, false}
use mathlib.Core.List.{List}
use Prim.Native.Nat.{ℕ, suc, ◌-◌, ◌≤◌, ◌<◌}
use native.Mathlib.Omega.{arith}
use lib.ListN.{get_or}
use borrow.Author.Tests.{eq-eqb, ne_eqb}
use Rattle.chain_steps.specs.Chains.{no_row, row_after, comes_to, firm_from}

-- within n steps
module _ (next : List ℕ) (z n i : ℕ) where
  pub comes_never : n ≤ 0 → false ≡ comes_to next z n i
  unfolding comes_to
  comes_never h =
      let e : n ≡ 0 = omega arith in
      rw e

  module _ (more : 0 < n) (row : ℕ) (is : row ≡ row_after next i) where
    pub comes_hit : (row ≡ no_row → ⊥) → row ≡ z → true ≡ comes_to next z n i
    unfolding comes_to
    comes_hit h k =
        let e : n ≡ suc (n - 1) = omega arith in
        rw (e, ← is, ne_eqb row no_row h, eq-eqb row z k)

    pub comes_on : (row ≡ no_row → ⊥) → (row ≡ z → ⊥) → comes_to next z (n - 1) row ≡ comes_to next z n i
    unfolding comes_to
    comes_on h k =
        let e : n ≡ suc (n - 1) = omega arith in
        let s : suc (n - 1) - 1 ≡ n - 1 = omega arith in
        rw (e, s, ← is, ne_eqb row no_row h, ne_eqb row z k)

-- within n rows, by the row's mark
module _ (next firm : List ℕ) (n i : ℕ) where
  pub firm_never : n ≤ 0 → false ≡ firm_from next firm n i
  unfolding firm_from
  firm_never h =
      let e : n ≡ 0 = omega arith in
      rw e

  module _ (more : 0 < n) (mark : ℕ) (marked : mark ≡ get_or firm i 0) where
    pub firm_not : (mark ≡ 1 → ⊥) → false ≡ firm_from next firm n i
    unfolding firm_from
    firm_not h =
        let e : n ≡ suc (n - 1) = omega arith in
        rw (e, ← marked, ne_eqb mark 1 h)

    module _ (is-firm : mark ≡ 1) (row : ℕ) (is : row ≡ row_after next i) where
      pub firm_end : row ≡ no_row → true ≡ firm_from next firm n i
      unfolding firm_from
      firm_end h =
          let e : n ≡ suc (n - 1) = omega arith in
          rw (e, ← marked, eq-eqb mark 1 is-firm, ← is, eq-eqb row no_row h)

      pub firm_on : (row ≡ no_row → ⊥) → firm_from next firm (n - 1) row ≡ firm_from next firm n i
      unfolding firm_from
      firm_on h =
          let e : n ≡ suc (n - 1) = omega arith in
          let s : suc (n - 1) - 1 ≡ n - 1 = omega arith in
          rw (e, s, ← marked, eq-eqb mark 1 is-firm, ← is, ne_eqb row no_row h)
