-- Rows chained from the last to the first, and what following their links meets.
use mathlib.Core.Path.{◌≡◌, refl, ap, ap₂, sym, subst, ◌∙◌}
use mathlib.Core.Bool.{Bool, true, false, cond, ◌&&◌}
use mathlib.Core.List.{List, ◌∷◌}
use Prim.Native.Nat.{ℕ, zero, suc, ◌+◌, ◌-◌, ◌≤◌, ◌<◌}
use native.Mathlib.Omega.{arith}
use native.Mathlib.Decide.{ℕ_discrete}
use lib.Dec.{eqb, ltb}
use lib.ListN.{length, get_or, set, length-set, get_or-eq_default}
use lib.Seq.{get_or-set_same, get_or-set_other}
use borrow.Author.Tests.{eqb-true, ne_eqb, lt-ltb, le-ltb, ltb-true, ltb-false}
use Rattle.laws.specs.Prefix.{first_from, all_from}
use Rattle.laws.proofs.Cases.{bool_cases, and_left}
use Rattle.passes.specs.Marked.{has_id, put_marked}
use Rattle.passes.specs.Groups.{first_row, Chained, chain}
use Rattle.passes.proofs.MarkedLaws.{put_size, put_under}

module _ (marks ids firsts₀ : List ℕ) where
  row_in : (id lo n : ℕ) → id < length firsts₀ → first_row marks ids firsts₀ id lo n ≡ first_from (has_id marks ids id) (get_or firsts₀ id 0) lo (n - lo)
  unfolding first_row
  row_in id lo n h = rw (lt-ltb id (length firsts₀) h)

  row_out : (id lo n : ℕ) → length firsts₀ ≤ id → first_row marks ids firsts₀ id lo n ≡ 0
  unfolding first_row
  row_out id lo n h = rw (le-ltb id (length firsts₀) h)

  module _ (nexts₀ : List ℕ) (n : ℕ) where
    pub chained_none : Chained marks ids firsts₀ nexts₀ firsts₀ nexts₀ n n
    unfolding first_from
    chained_none =
        record {
          within = omega arith;
          first_size = refl;
          next_size = refl;
          first = λ id. first id;
          next = λ j p q h. absurd (omega arith);
          rest = λ j p. refl;
        }
      where
        first : (id : ℕ) → get_or firsts₀ id 0 ≡ first_row marks ids firsts₀ id n n
        first id =
            let e : n - n ≡ 0 = omega arith in
            bool_cases (ltb id (length firsts₀))
            (λ q. sym (row_in id n n (ltb-true id (length firsts₀) q) ∙ rw e))
            (λ q. let b = ltb-false id (length firsts₀) q in get_or-eq_default firsts₀ 0 {n = id} b ∙ sym (row_out id n n b))

    -- row i comes before those from i + 1 on
    module _ (firsts nexts : List ℕ) (i : ℕ) (w : Chained marks ids firsts₀ nexts₀ firsts nexts (i + 1) n) (x : ℕ) (is : x ≡ get_or firsts (get_or ids i 0) 0)
        (after : List ℕ) (put : after ≡ put_marked (get_or marks i 0) (get_or ids i 0) (i + 1) firsts) where
      size : length after ≡ length firsts₀
      size = ap length put ∙ put_size (get_or marks i 0) (get_or ids i 0) (i + 1) firsts ∙ w.first_size

      first_in : (id : ℕ) → id < length firsts₀ → get_or after id 0 ≡ first_row marks ids firsts₀ id i n
      unfolding first_from has_id
      first_in id h =
          let e : n - i ≡ suc (n - (i + 1)) = omega (arith, w.within) in
          ap (λ (l : List ℕ). get_or l id 0) put
          ∙ put_under (get_or marks i 0) (get_or ids i 0) (i + 1) firsts id (omega (arith, w.first_size))
          ∙ ap (cond (eqb (get_or ids i 0) id && eqb (get_or marks i 0) 1) (i + 1)) (w.first id ∙ row_in id (i + 1) n h)
          ∙ sym (row_in id i n h ∙ ap (first_from (has_id marks ids id) (get_or firsts₀ id 0) i) e)

      first_out : (id : ℕ) → length firsts₀ ≤ id → get_or after id 0 ≡ first_row marks ids firsts₀ id i n
      first_out id h = get_or-eq_default after 0 {n = id} (omega (arith, size)) ∙ sym (row_out id i n h)

      next_is : (j : ℕ) → i ≤ j → j < n → j < length nexts₀ → Dec (j ≡ i) → get_or (set nexts i x) j 0 ≡ first_row marks ids firsts₀ (get_or ids j 0) (j + 1) n
      next_is j p q h (yes e) =
          ap (λ (k : ℕ). get_or (set nexts i x) k 0) e
          ∙ get_or-set_same nexts i x 0 (omega (arith, w.next_size))
          ∙ is
          ∙ w.first (get_or ids i 0)
          ∙ ap (λ (k : ℕ). first_row marks ids firsts₀ (get_or ids k 0) (k + 1) n) (sym e)
      next_is j p q h (no z) = get_or-set_other nexts i j x 0 z ∙ w.next j (omega (arith, z)) q h

      one_more : Chained marks ids firsts₀ nexts₀ after (set nexts i x) i n
      one_more =
          record {
            within = omega (arith, w.within);
            first_size = size;
            next_size = length-set nexts i x ∙ w.next_size;
            first = λ id. bool_cases (ltb id (length firsts₀)) (λ q. first_in id (ltb-true id (length firsts₀) q))
                (λ q. first_out id (ltb-false id (length firsts₀) q));
            next = λ j p q h. next_is j p q h (ℕ_discrete j i);
            rest = λ j p. get_or-set_other nexts i j x 0 (λ q. omega (arith, w.within)) ∙ w.rest j p;
          }

    -- the same of row i - 1, by what was read of it
    pub chained_more : (firsts nexts : List ℕ) (i : ℕ) → Chained marks ids firsts₀ nexts₀ firsts nexts i n → 0 < i
        → (mark id x : ℕ) → mark ≡ get_or marks (i - 1) 0 → id ≡ get_or ids (i - 1) 0 → x ≡ get_or firsts id 0
        → (after later : List ℕ) → after ≡ put_marked mark id (i - 1 + 1) firsts → later ≡ set nexts (i - 1) x
        → Chained marks ids firsts₀ nexts₀ after later (i - 1) n
    chained_more firsts nexts i w h mark id x m k is after later put link =
        let e : i ≡ i - 1 + 1 = omega arith in
        rw link
        (one_more firsts nexts (i - 1) (subst (λ (j : ℕ). Chained marks ids firsts₀ nexts₀ firsts nexts j n) e w) x
        (is ∙ ap (λ (j : ℕ). get_or firsts j 0) k) after (put ∙ ap₂ (λ (a b : ℕ). put_marked a b (i - 1 + 1) firsts) m k))

    -- THE LAW OF GROUPS: following the links of an id meets its rows, all of them and in their order
    module _ (firsts nexts : List ℕ) (w : Chained marks ids firsts₀ nexts₀ firsts nexts 0 n) (room : n ≤ length nexts₀)
        (id : ℕ) (h : id < length firsts₀) (clear : get_or firsts₀ id 0 ≡ 0) where
      abbrev f : ℕ → Bool
      f = has_id marks ids id

      linked : (j : ℕ) → j < n → f j ≡ true → get_or nexts j 0 ≡ first_from f 0 (j + 1) (n - (j + 1))
      unfolding has_id
      linked j p e =
          let q : get_or ids j 0 ≡ id = eqb-true _ _ (and_left (eqb (get_or ids j 0) id) (eqb (get_or marks j 0) 1) e) in
          w.next j (omega arith) p (omega arith)
          ∙ ap (λ (k : ℕ). first_row marks ids firsts₀ k (j + 1) n) q
          ∙ row_in id (j + 1) n h
          ∙ ap (λ (x : ℕ). first_from f x (j + 1) (n - (j + 1))) clear

      chain_from : (d lo steps : ℕ) → lo + d ≡ n → d ≤ steps → chain nexts steps (first_from f 0 lo d) ≡ all_from f lo d
      unfolding first_from all_from chain
      chain_from zero lo zero e s = refl
      chain_from zero lo (suc steps) e s = refl
      chain_from (suc d) lo zero e s = absurd (omega arith)
      chain_from (suc d) lo (suc steps) e s =
          go (f lo) refl (chain_from d (lo + 1) steps (omega arith) (omega arith)) (chain_from d (lo + 1) (suc steps) (omega arith) (omega arith))
        where
          go : (t : Bool) → f lo ≡ t → chain nexts steps (first_from f 0 (lo + 1) d) ≡ all_from f (lo + 1) d → chain nexts (suc steps)
              (first_from f 0 (lo + 1) d) ≡ all_from f (lo + 1) d
              → chain nexts (suc steps) (cond t (lo + 1) (first_from f 0 (lo + 1) d)) ≡ cond t (lo ∷ all_from f (lo + 1) d) (all_from f (lo + 1) d)
          go true p r q =
              let a : lo + 1 - 1 ≡ lo = omega arith in
              let b : n - (lo + 1) ≡ d = omega arith in
              rw (ne_eqb (lo + 1) 0 (λ z. omega arith), a) (ap (λ (l : List ℕ). lo ∷ l)
              (ap (chain nexts steps) (linked lo (omega arith) p ∙ ap (first_from f 0 (lo + 1)) b) ∙ r))
          go false p r q = q

      pub group_rows : chain nexts n (get_or firsts id 0) ≡ all_from f 0 n
      group_rows =
          let e : n - 0 ≡ n = omega arith in
          ap (chain nexts n) (w.first id ∙ row_in id 0 n h ∙ ap₂ (λ (x d : ℕ). first_from f x 0 d) clear e) ∙ chain_from n 0 n (omega arith) (omega arith)
