-- The numbers of rows in their tables, one after the other.
use mathlib.Core.Path.{◌≡◌, ◌∙◌}
use mathlib.Core.Bool.{Bool, true, false, cond}
use mathlib.Core.List.{List}
use Prim.Native.Nat.{ℕ, suc, ◌+◌, ◌≤◌}
use native.Mathlib.Numerals.{add-one}
use native.Mathlib.Omega.{arith}
use lib.Dec.{eqb}
use lib.ListN.{get_or}
use borrow.Author.Tests.{eq-eqb, ne_eqb}
use Rattle.index_columns.specs.Columns.{following, row_number_at}

module _ (number table next : ℕ) where
  pub same_table : table ≡ next → number + 1 ≡ following number table next
  unfolding following
  same_table e = rw (eq-eqb table next e, add-one)

  pub other_table : (table ≡ next → ⊥) → 1 ≡ following number table next
  unfolding following
  other_table n = rw (ne_eqb table next n)

  following_most : following number table next ≤ suc number
  unfolding following
  following_most = go (eqb table next)
    where
      go : (b : Bool) → cond b (suc number) 1 ≤ suc number
      go true = omega arith
      go false = omega arith

-- one row more
module _ (tables : List ℕ) (i number x y r : ℕ) (is : number ≡ row_number_at tables i)
    (a : x ≡ get_or tables i 0) (b : y ≡ get_or tables (i + 1) 0) (next : r ≡ following number x y) where
  pub number_next : r ≡ row_number_at tables (i + 1)
  unfolding row_number_at
  number_next = next ∙ rw (is, a, b, add-one)

  pub number_most : number ≤ i + 1 → r ≤ i + 1 + 1
  number_most h = omega (arith, next, following_most number x y)
