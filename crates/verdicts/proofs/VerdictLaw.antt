-- A verdict is what the rows' own verdicts make it: the number of names in its definition is large enough.
use mathlib.Core.Path.{◌≡◌, ap}
use mathlib.Core.Bool.{Bool, true, cond}
use mathlib.Core.List.{List, map}
use Prim.Native.Nat.{ℕ, zero, suc, ◌+◌}
use native.Mathlib.Omega.{arith}
use lib.Dec.{eqb}
use lib.ListN.{length}
use borrow.Author.Tests.{eqb-true, eq-eqb}
use Rattle.laws.specs.Lists.{first}
use Rattle.laws.proofs.First.{or_else_zero, first_zero, zero_first, unless_zero}
use Rattle.laws.proofs.Tests.{any_same, any_up, map_same, keep_mem}
use Rattle.laws.proofs.Rest.{at_rest, Agree}
use Rattle.verdicts.specs.Facts.{Naming}
use Rattle.verdicts.specs.Entries.{Entry, own, facts}
use Rattle.verdicts.specs.Verdicts.{shared, count_cell, circle, asked, name_cell, judge, within, verdict}

module _ (rows : List Entry) (good good' : Entry → Bool) where
  -- with more good rows a name that is met stays so
  name_up : ((o : Entry) → good o ≡ true → good' o ≡ true) → (n : Naming) → name_cell rows good n ≡ 0 → name_cell rows good' n ≡ 0
  unfolding name_cell
  name_up h n e = rw (any_up good good' (asked rows n) h (unless_zero _ (2816 + n.column) (omega arith) e))

  -- with more good rows a row that is good stays so
  judge_up : ((o : Entry) → good o ≡ true → good' o ≡ true) → (e : Entry) → judge rows good e ≡ 0 → judge rows good' e ≡ 0
  unfolding judge
  judge_up h e z =
      let k₁ = or_else_zero (own e.reading) _ z in
      let k₂ = or_else_zero (cond (shared rows e) 2304 0) _ k₁.1 in
      let k₃ = or_else_zero (first (map (count_cell rows) (facts e).counts)) _ k₂.1 in
      let k₄ = or_else_zero (cond (circle rows e) 3080 0) _ k₃.1 in
      rw (k₁.0, k₂.0, k₃.0, k₄.0)
      (zero_first (name_cell rows good') (facts e).names (λ n m. name_up h n (first_zero (name_cell rows good) m k₄.1)))

  -- a verdict asks only of rows of the tables whether they are good
  judge_by : Agree good good' rows → (e : Entry) → judge rows good e ≡ judge rows good' e
  unfolding judge name_cell asked
  judge_by h e =
      rw (map_same (name_cell rows good) (name_cell rows good') (facts e).names
      (λ n _. rw (any_same good good' (asked rows n) (λ o m. h o (keep_mem _ rows m).0))))

module _ (rows : List Entry) where
  -- good by rows that are good within n names
  abbrev pub good_in : ℕ → Entry → Bool
  good_in n o = eqb (within n rows o) 0

  -- good within n is good within one more
  pub good_up : (n : ℕ) (a : Entry) → good_in n a ≡ true → good_in (suc n) a ≡ true
  unfolding within
  good_up zero a t = cc
  good_up (suc n) a t = eq-eqb _ _ (judge_up rows (good_in n) (good_in (suc n)) (good_up n) a (eqb-true _ _ t))

  -- where one more changes nothing, the next changes nothing
  good_stay : (n : ℕ) → Agree (good_in n) (good_in (suc n)) rows → Agree (good_in (suc n)) (good_in (suc (suc n))) rows
  unfolding within
  good_stay n h a m = ap (λ (v : ℕ). eqb v 0) (judge_by rows (good_in n) (good_in (suc n)) h a)

  -- a row's verdict, where the good rows are those with verdict 0
  pub verdict_law : (e : Entry) → verdict rows e ≡ judge rows (λ o. eqb (verdict rows o) 0) e
  unfolding verdict within
  verdict_law e = judge_by rows (good_in (length rows)) (good_in (suc (length rows))) (at_rest rows good_in good_up good_stay) e
