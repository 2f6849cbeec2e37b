-- What each step of the pass answers, by what was read.
use mathlib.Core.Path.{◌≡◌}
use mathlib.Core.Bool.{Bool, true, false}
use mathlib.Core.List.{List}
use Prim.Native.Nat.{ℕ}
use lib.ListN.{get_or}
use borrow.Author.Tests.{eq-eqb, ne_eqb}
use Rattle.manners.specs.Manners.{is_second, with_second}
use Rattle.chain_steps.specs.Chains.{no_row}
use Rattle.kinds.specs.Kinds.{second_at, kinds_of}

-- whether a naming leads to a second row
module _ (marks : List ℕ) (code found : ℕ) where
  pub second_none : found ≡ no_row → false ≡ second_at marks code found
  unfolding second_at
  second_none h = rw (eq-eqb found no_row h)

  pub second_row_lem : (found ≡ no_row → ⊥) → (mark : ℕ) → mark ≡ get_or marks found 0 → (b : Bool) → b ≡ is_second code mark → b ≡ second_at marks code found
  unfolding second_at
  second_row_lem h mark marked b is = rw (ne_eqb found no_row h, ← marked) is

-- the kinds of a row, by its two namings
module _ (marks : List ℕ) (own code1 found1 code2 found2 : ℕ) (a : Bool) (one : a ≡ second_at marks code1 found1) (k : ℕ) where
  pub kinds_one : a ≡ true → k ≡ with_second own true → k ≡ kinds_of marks own code1 found1 code2 found2
  unfolding kinds_of
  kinds_one h is = rw (← one, h) is

  pub kinds_two : a ≡ false → (b : Bool) → b ≡ second_at marks code2 found2 → k ≡ with_second own b → k ≡ kinds_of marks own code1 found1 code2 found2
  unfolding kinds_of
  kinds_two h b two is = rw (← one, h, ← two) is
