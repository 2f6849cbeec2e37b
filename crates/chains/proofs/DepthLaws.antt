-- The depth of a firm chain: it is firm within as many rows, and within more.
use mathlib.Core.Path.{◌≡◌, refl, sym, subst, ◌∙◌}
use mathlib.Core.Bool.{Bool, true, false, cond, ◌&&◌}
use mathlib.Core.List.{List}
use Prim.Native.Nat.{ℕ, zero, suc, ◌+◌, ◌-◌, ◌≤◌, ◌<◌}
use native.Mathlib.Omega.{arith}
use lib.Dec.{eqb, ltb}
use lib.ListN.{length, get_or, set, replicate, length-set, get_or-eq_default}
use lib.Seq.{get_or-set_same, get_or-set_other}
use borrow.Author.Tests.{ne_eqb, lt-ltb, eqb-true, eqb-false, ltb-true, ltb-false}
use Rattle.laws.proofs.Cases.{bool_cases, false≢true}
use Rattle.chain_steps.specs.Chains.{no_row, row_after, firm_from}
use Rattle.chains.specs.Courses.{KnownDepths, DepthIs}
use Rattle.chains.proofs.EndLaws.{none_marked}

module _ (next firm : List ℕ) where
  abbrev good : ℕ → ℕ → Bool
  good m i = firm_from next firm m i

  -- a row of the chain, by its two tests
  row_more : {x y : Bool} (a b : Bool) → (x ≡ true → y ≡ true) → (a && cond b true x) ≡ true → (a && cond b true y) ≡ true
  row_more false b f t = absurd (false≢true t)
  row_more true true f t = refl
  row_more true false f t = f t

  row_rest : {x : Bool} (a b : Bool) → b ≡ false → (a && cond b true x) ≡ true → x ≡ true
  row_rest false b e t = absurd (false≢true t)
  row_rest true true e t = absurd (false≢true (sym e))
  row_rest true false e t = t

  good_more : (m i : ℕ) → good m i ≡ true → good (suc m) i ≡ true
  unfolding firm_from
  good_more zero i t = absurd (false≢true t)
  good_more (suc m) i t = row_more (eqb (get_or firm i 0) 1) (eqb (row_after next i) no_row) (good_more m (row_after next i)) t

  good_up : (d m i : ℕ) → good m i ≡ true → good (m + d) i ≡ true
  good_up zero m i t = let e : m + 0 ≡ m = omega arith in rw e t
  good_up (suc d) m i t = let e : m + suc d ≡ suc (m + d) = omega arith in rw e (good_more (m + d) i (good_up d m i t))

  pub firm_within : (m n i : ℕ) → m ≤ n → good m i ≡ true → good n i ≡ true
  firm_within m n i h t = subst (λ (k : ℕ). good k i ≡ true) (omega arith) (good_up (n - m) m i t)

  -- what is left of a firm chain after its first row
  pub firm_rest : (m i : ℕ) → 0 < m → (row : ℕ) → row ≡ row_after next i → (row ≡ no_row → ⊥) → good m i ≡ true → good (m - 1) row ≡ true
  unfolding firm_from
  firm_rest zero i h row is there t = absurd (false≢true t)
  firm_rest (suc m) i h row is there t =
      let s : suc m - 1 ≡ m = omega arith in
      rw (s, is) (row_rest (eqb (get_or firm i 0) 1) (eqb (row_after next i) no_row) (ne_eqb _ no_row (λ q. there (is ∙ q))) t)

  -- what was passed from row i to row at, with left of n rows left
  module _ (n i : ℕ) where
    pub record Behind (left at : ℕ) : Type 0 where
      pub most : left ≤ n
      pub same : good left at ≡ good n i
      pub back : (m : ℕ) → good m at ≡ true → good (m + (n - left)) i ≡ true

    pub behind_none : Behind n i
    behind_none = record { most = omega arith; same = refl; back = λ m t. good_up (n - n) m i t }

    pub not_good : false ≡ good n i → DepthIs next firm n i 0
    not_good e = record { good = e; deep = λ h. absurd (h refl) }

    module _ (left at : ℕ) (b : Behind left at) where
      pub is_deep : (depth : ℕ) → 0 < depth → depth ≤ left → good depth at ≡ true → DepthIs next firm n i (n - left + depth)
      is_deep depth some fits t =
          let e : depth + (n - left) ≡ n - left + depth = omega arith in
          record {
            good = lt-ltb 0 (n - left + depth) (omega arith) ∙ sym (sym b.same ∙ firm_within depth left at fits t);
            deep = λ _. subst (λ (k : ℕ). good k i ≡ true) e (b.back depth t);
          }

      pub behind_more : (row : ℕ) → 0 < left → ((m : ℕ) → 0 < m → good (m - 1) row ≡ good m at) → Behind (left - 1) row
      behind_more row h step =
          record { most = omega (arith, b.most); same = step left h ∙ b.same; back = λ m t. further m (sym (step (suc m) (omega arith)) ∙ rw (less m) t) }
        where
          less : (m : ℕ) → suc m - 1 ≡ m
          less m = omega arith

          further : (m : ℕ) → good (suc m) at ≡ true → good (m + (n - (left - 1))) i ≡ true
          further m t = subst (λ (k : ℕ). good k i ≡ true) (omega (arith, b.most)) (b.back (suc m) t)

  -- depths
  pub depths_none : (n : ℕ) → KnownDepths next firm (replicate {A = ℕ} n 0)
  depths_none n = record { row = λ j h. absurd (h (none_marked n j)) }

  module _ (depths : List ℕ) (at depth : ℕ) (known : KnownDepths next firm depths) (t : good depth at ≡ true) where
    here : (get_or (set depths at depth) at 0 ≡ 0 → ⊥) → good (get_or (set depths at depth) at 0) at ≡ true
    here h =
        bool_cases (ltb at (length depths)) (λ q. rw (get_or-set_same depths at depth 0 (ltb-true at (length depths) q)) t)
        (λ q. absurd (h (get_or-eq_default (set depths at depth) 0 (omega (arith, length-set depths at depth, ltb-false at (length depths) q)))))

    more : (j : ℕ) → (get_or (set depths at depth) j 0 ≡ 0 → ⊥) → good (get_or (set depths at depth) j 0) j ≡ true
    more j h =
        bool_cases (eqb j at)
        (λ q. subst (λ (k : ℕ). (get_or (set depths at depth) k 0 ≡ 0 → ⊥) → good (get_or (set depths at depth) k 0) k ≡ true) (sym (eqb-true j at q)) here h)
        (λ q. let s = get_or-set_other depths at j depth 0 (eqb-false j at q) in rw s (known.row j (rw s at h)))

    pub depths_more : KnownDepths next firm (set depths at depth)
    depths_more = record { row = more }
