-- Rows noted under their ids, and arrays that are filled row by row.
use mathlib.Core.Path.{◌≡◌, refl, ap, ap₂, sym, ◌∙◌}
use mathlib.Core.Bool.{Bool, true, false, cond, ◌&&◌}
use mathlib.Core.List.{List}
use Prim.Native.Nat.{ℕ, ◌+◌, ◌<◌}
use native.Mathlib.Omega.{arith}
use native.Mathlib.Numerals.{add-one}
use native.Mathlib.Decide.{ℕ_discrete}
use lib.Dec.{eqb, ltb}
use lib.ListN.{length, get_or, set, length-set}
use lib.Seq.{get_or-set_same, get_or-set_other}
use borrow.Author.Tests.{lt-ltb, le-ltb, ltb-true, ltb-false}
use Rattle.laws.specs.Lists.{or_else}
use Rattle.laws.specs.Prefix.{last_with}
use Rattle.laws.proofs.Cases.{bool_cases}
use Rattle.laws.proofs.Count.{last_more}
use Rattle.passes.specs.Marked.{has_id, put_marked}
use Rattle.passes.specs.Holders.{Noted, Filled}
use Rattle.passes.proofs.MarkedLaws.{put_size, put_under}

module _ (marks ids before : List ℕ) where
  pub noted_none : Noted marks ids before before 0
  unfolding last_with
  noted_none = record { size = refl; at = λ id h. refl }

  one_more : (xs : List ℕ) (i : ℕ) → Noted marks ids before xs i → (ys : List ℕ) → ys ≡ put_marked (get_or marks i 0) (get_or ids i 0) (i + 1) xs
      → Noted marks ids before ys (i + 1)
  unfolding has_id
  one_more xs i w ys e =
      record {
        size = ap length e ∙ put_size (get_or marks i 0) (get_or ids i 0) (i + 1) xs ∙ w.size;
        at = λ id h.
            ap (λ (l : List ℕ). get_or l id 0) e
            ∙ put_under (get_or marks i 0) (get_or ids i 0) (i + 1) xs id (omega (arith, w.size))
            ∙ rw (last_more (has_id marks ids id) i) (go id (eqb (get_or ids i 0) id && eqb (get_or marks i 0) 1) h);
      }
    where
      go : (id : ℕ) (t : Bool) → id < length before → cond t (i + 1) (get_or xs id 0) ≡ or_else (cond t (i + 1) (last_with (has_id marks ids id) i))
          (get_or before id 0)
      go id true h = rw (add-one i)
      go id false h = w.at id h

  pub noted_more : (xs : List ℕ) (i : ℕ) → Noted marks ids before xs i → (mark id : ℕ) → mark ≡ get_or marks i 0 → id ≡ get_or ids i 0 → (ys : List ℕ)
      → ys ≡ put_marked mark id (i + 1) xs → Noted marks ids before ys (i + 1)
  noted_more xs i w mark id m k ys put = one_more xs i w ys (put ∙ ap₂ (λ (a b : ℕ). put_marked a b (i + 1) xs) m k)

module _ (f : ℕ → ℕ) (before : List ℕ) where
  pub filled_none : Filled f before before 0
  filled_none = record { size = refl; at = λ i h. rw (le-ltb i 0 (omega arith)) }

  pub filled_more : (xs : List ℕ) (i v : ℕ) → Filled f before xs i → v ≡ f i → (ys : List ℕ) → ys ≡ set xs i v → Filled f before ys (i + 1)
  filled_more xs i v w e ys put =
      record {
        size = ap length put ∙ length-set xs i v ∙ w.size;
        at = λ j h. ap (λ (l : List ℕ). get_or l j 0) put ∙ go j h (ℕ_discrete j i);
      }
    where
      old : (j : ℕ) → j < length before → (j ≡ i → ⊥) → get_or xs j 0 ≡ cond (ltb j (i + 1)) (f j) (get_or before j 0)
      old j h z =
          bool_cases (ltb j i)
          (λ q. let b = ltb-true j i q in w.at j h ∙ rw (q, lt-ltb j (i + 1) (omega arith)))
          (λ q. let b = ltb-false j i q in w.at j h ∙ rw (q, le-ltb j (i + 1) (omega (arith, z))))

      go : (j : ℕ) → j < length before → Dec (j ≡ i) → get_or (set xs i v) j 0 ≡ cond (ltb j (i + 1)) (f j) (get_or before j 0)
      go j h (yes q) =
          ap (λ (k : ℕ). get_or (set xs i v) k 0) q ∙ get_or-set_same xs i v 0 (omega (arith, w.size)) ∙ e ∙ ap f (sym q)
          ∙ rw (lt-ltb j (i + 1) (omega arith))
      go j h (no z) = get_or-set_other xs i j v 0 z ∙ old j h z

  -- THE LAW OF STORES: each of the rows has its value
  pub stored : (after : List ℕ) (n : ℕ) → Filled f before after n → (i : ℕ) → i < n → i < length before → get_or after i 0 ≡ f i
  stored after n w i h b = w.at i b ∙ rw (lt-ltb i n h)
