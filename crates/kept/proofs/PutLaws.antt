-- What stands where after the values of a row are stored.
use mathlib.Core.Path.{◌≡◌, refl, ap, sym, ◌∙◌}
use mathlib.Core.List.{List, [], ◌∷◌}
use Prim.Native.Nat.{ℕ, zero, suc, ◌+◌, ◌*◌, ◌≤◌, ◌<◌, min}
use native.Mathlib.Omega.{arith}
use native.Mathlib.Nat.{add-zero}
use native.Mathlib.Numerals.{add-one}
use lib.Dec.{ltb}
use lib.ListN.{length, get_or, set, drop, length-set, drop_of_length-le}
use lib.Seq.{get_or-set_same, get_or-set_other}
use borrow.Author.Tests.{ltb-true, ltb-false}
use Rattle.laws.proofs.Cases.{bool_cases}
use Rattle.laws.proofs.Lists.{split}
use Rattle.arrays.specs.Room.{most_places}
use Rattle.kept.specs.Stored.{at}
use Rattle.row_keys.specs.declared.records.RowKeys.{RowKeys}
use Rattle.kept.specs.declared.interning.RowIds.{RowIds}
use Rattle.kept.specs.Puts.{put_columns, halves_of}

-- the columns are as long as they were
pub put_length : (vs : List ℕ) (c : ℕ) (columns : List ℕ) (i : ℕ) → length (put_columns c columns i vs) ≡ length columns
unfolding put_columns
put_length [] c columns i = refl
put_length (v ∷ vs) c columns i = put_length vs (suc c) (set columns (c * most_places + i) v) i ∙ length-set columns (c * most_places + i) v

-- places of two columns, or two places, differ
places_differ : (c d i j : ℕ) → i < most_places → j < most_places → (c ≡ d → i ≡ j → ⊥) → d * most_places + j ≡ c * most_places + i → ⊥
places_differ c d i j h k o e =
    bool_cases (ltb c d)
    (λ q. let l = ltb-true c d q in omega arith)
    (λ q. let l = ltb-false c d q in
    bool_cases (ltb d c)
    (λ p. let m = ltb-true d c p in omega arith)
    (λ p. let m = ltb-false d c p in
    let z : c ≡ d = omega arith in
    o z (omega arith)))

module _ (i : ℕ) (h : i < most_places) where
  -- the places of other rows stay
  pub put_there : (vs : List ℕ) (c : ℕ) (columns : List ℕ) (d j : ℕ) → j < most_places → (j ≡ i → ⊥) → at (put_columns c columns i vs) d j ≡ at columns d j
  unfolding put_columns
  put_there [] c columns d j k o = refl
  put_there (v ∷ vs) c columns d j k o =
      put_there vs (suc c) (set columns (c * most_places + i) v) d j k o
      ∙ get_or-set_other columns (c * most_places + i) (d * most_places + j) v 0 (places_differ c d i j h k (λ _ e. o (sym e)))

  -- and the columns before
  put_before : (vs : List ℕ) (c : ℕ) (columns : List ℕ) (d : ℕ) → d < c → at (put_columns c columns i vs) d i ≡ at columns d i
  unfolding put_columns
  put_before [] c columns d l = refl
  put_before (v ∷ vs) c columns d l =
      put_before vs (suc c) (set columns (c * most_places + i) v) d (omega arith)
      ∙ get_or-set_other columns (c * most_places + i) (d * most_places + i) v 0 (places_differ c d i i h h (λ e _. omega (arith, e)))

  -- each value stands in its column
  pub put_here : (vs : List ℕ) (c : ℕ) (columns : List ℕ) (k : ℕ) → k < length vs → (c + length vs) * most_places ≤ length columns
      → at (put_columns c columns i vs) (c + k) i ≡ get_or vs k 0
  unfolding put_columns
  put_here [] c columns k l m = absurd (omega arith)
  put_here (v ∷ vs) c columns zero l m =
      rw (add-zero c)
      (put_before vs (suc c) (set columns (c * most_places + i) v) c (omega arith) ∙ get_or-set_same columns (c * most_places + i) v 0 (omega arith))
  put_here (v ∷ vs) c columns (suc k) l m =
      let e : c + suc k ≡ suc c + k = omega arith in
      rw e (put_here vs (suc c) (set columns (c * most_places + i) v) k (omega arith) (omega (arith, length-set columns (c * most_places + i) v)))

-- the walk over the values: with those left, the columns are as they were with all
module _ (vs : List ℕ) (i : ℕ) (before : List ℕ) where
  pub put_more : (c : ℕ) (columns after : List ℕ) → c < length vs → after ≡ set columns (c * most_places + i) (get_or vs c 0)
      → put_columns c columns i (drop c vs) ≡ put_columns 0 before i vs → put_columns (c + 1) after i (drop (c + 1) vs) ≡ put_columns 0 before i vs
  unfolding put_columns
  put_more c columns after h e w = rw (e, add-one c) (rw (split vs c 0 h, add-one c) at w)

  pub put_end : (c : ℕ) (columns : List ℕ) → length vs ≤ c → put_columns c columns i (drop c vs) ≡ put_columns 0 before i vs → columns ≡ put_columns 0 before i vs
  unfolding put_columns
  put_end c columns h w = rw (drop_of_length-le vs h) at w

-- the values of a row, with the number cut
pub halves_put : (columns after : List ℕ) (i : ℕ) (r : RowKeys) (ids : RowIds) (start number : ℕ) → number ≡ min r.count.number 65535
    → after ≡ put_columns 0 columns i (r.verdict ∷ ids.key1 ∷ ids.key2 ∷ ids.name1 ∷ ids.name2 ∷ ids.group ∷ number ∷ start ∷ [])
    → after ≡ put_columns 0 columns i (halves_of r ids start)
halves_put columns after i r ids start number e w =
    w ∙ ap (λ (x : ℕ). put_columns 0 columns i (r.verdict ∷ ids.key1 ∷ ids.key2 ∷ ids.name1 ∷ ids.name2 ∷ ids.group ∷ x ∷ start ∷ [])) e
