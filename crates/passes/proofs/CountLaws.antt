-- The law of counters.
use mathlib.Core.Path.{◌≡◌, refl, ap, ap₂, ◌∙◌}
use mathlib.Core.Bool.{Bool, true, false, cond, ◌&&◌}
use mathlib.Core.List.{List}
use Prim.Native.Nat.{ℕ, ◌+◌, ◌<◌, min}
use native.Mathlib.Omega.{arith}
use native.Mathlib.Decide.{ℕ_discrete}
use lib.Dec.{eqb}
use lib.ListN.{length, get_or}
use borrow.Author.Tests.{ne_eqb}
use Rattle.laws.specs.Prefix.{count_with, flag}
use Rattle.laws.proofs.Count.{count_more, count_within}
use Rattle.passes.specs.Marked.{has_id, put_marked}
use Rattle.passes.specs.Counts.{Counted}
use Rattle.passes.proofs.MarkedLaws.{put_size, put_under}

module _ (marks ids before : List ℕ) where
  pub counted_none : ((id : ℕ) → id < length before → get_or before id 0 < 65536) → Counted marks ids before before 0
  unfolding count_with
  counted_none small = record { size = refl; at = λ id h. omega (arith, small id h) }

  -- one row more: x, one more than what stood under its id, is put there
  module _ (xs : List ℕ) (i : ℕ) (w : Counted marks ids before xs i) where
    one_more : (x y : ℕ) → y ≡ get_or xs (get_or ids i 0) 0 → x ≡ min (y + 1) 65535 → (ys : List ℕ)
        → ys ≡ put_marked (get_or marks i 0) (get_or ids i 0) x xs → Counted marks ids before ys (i + 1)
    unfolding has_id
    one_more x y is more ys put =
        record {
          size = ap length put ∙ put_size (get_or marks i 0) (get_or ids i 0) x xs ∙ w.size;
          at = λ id h.
              ap (λ (l : List ℕ). get_or l id 0) put
              ∙ put_under (get_or marks i 0) (get_or ids i 0) x xs id (omega (arith, w.size))
              ∙ go id h (ℕ_discrete (get_or ids i 0) id);
        }
      where
        add : (id : ℕ) (t : Bool) (z : ℕ) → id < length before → (t ≡ true → z ≡ min (get_or xs id 0 + 1) 65535)
            → cond t z (get_or xs id 0) ≡ min (get_or before id 0 + (count_with (has_id marks ids id) i + flag t)) 65535
        add id true z h e = omega (arith, w.at id h, e refl)
        add id false z h e = omega (arith, w.at id h)

        go : (id : ℕ) → id < length before → Dec (get_or ids i 0 ≡ id)
            → cond (eqb (get_or ids i 0) id && eqb (get_or marks i 0) 1) x (get_or xs id 0) ≡ min (get_or before id 0 + count_with (has_id marks ids id) (i + 1)) 65535
        go id h (yes q) =
            let e : y ≡ get_or xs id 0 = is ∙ ap (λ (k : ℕ). get_or xs k 0) q in
            rw (count_more (has_id marks ids id) i) (add id (eqb (get_or ids i 0) id && eqb (get_or marks i 0) 1) x h (λ r. omega arith))
        go id h (no z) = rw (count_more (has_id marks ids id) i, ne_eqb (get_or ids i 0) id z) (add id false 0 h (λ r. cc))

    pub counted_more : (mark id y x : ℕ) → mark ≡ get_or marks i 0 → id ≡ get_or ids i 0 → y ≡ get_or xs id 0 → x ≡ min (y + 1) 65535 → (ys : List ℕ)
        → ys ≡ put_marked mark id x xs → Counted marks ids before ys (i + 1)
    counted_more mark id y x m k is more ys put =
        one_more x y (is ∙ ap (λ (j : ℕ). get_or xs j 0) k) more ys (put ∙ ap₂ (λ (a b : ℕ). put_marked a b x xs) m k)

  -- THE LAW OF COUNTERS: after the loop an id has what it had and how many of the rows have it,
  -- where so many can be counted
  pub counts : (after : List ℕ) (n : ℕ) → Counted marks ids before after n → (id : ℕ) → id < length before → get_or before id 0 + n < 65536
      → get_or after id 0 ≡ get_or before id 0 + count_with (has_id marks ids id) n
  counts after n w id h room = omega (arith, w.at id h, count_within (has_id marks ids id) n)
