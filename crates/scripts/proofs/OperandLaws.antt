-- Laws of a text's columns, met one after the other.
use mathlib.Core.Path.{◌≡◌, ap, ◌∙◌}
use mathlib.Core.List.{List, [], ◌∷◌, ◌++◌, append-nil, append_assoc}
use Prim.Native.Nat.{ℕ, suc, ◌+◌, ◌-◌, ◌<◌, ◌≤◌}
use native.Mathlib.Omega.{arith}
use lib.Dec.{eqb, ltb}
use lib.ListN.{length, take, drop, length-drop}
use lib.Seq.{take_all, drop-drop}
use borrow.Author.Tests.{ltb-true, ltb-false}
use Rattle.laws.proofs.Cases.{bool_cases}
use Rattle.lines.specs.Columns.{columns_from, columns_of, column_at, part_of}
use Rattle.scripts.specs.Words.{upto}

-- the first column ends at the first TAB
columns_more : (c s : List ℕ) → upto 9 s < length s
    → columns_from c s ≡ (c ++ take (upto 9 s) s) ∷ columns_from [] (drop (suc (upto 9 s)) s)
unfolding columns_from upto
columns_more c [] h = absurd (omega arith)
columns_more c (b ∷ bs) h =
    bool_cases (eqb b 9)
    (λ t. rw (t, append-nil c))
    (λ t. let g : suc (upto 9 bs) < suc (length bs) = rw t at h in
    rw t
    (columns_more (c ++ b ∷ []) bs (omega arith)
    ∙ ap (λ (x : List ℕ). x ∷ columns_from [] (drop (suc (upto 9 bs)) bs)) (append_assoc c (b ∷ []) (take (upto 9 bs) bs))))

-- and where there is none, with the text
columns_last : (c s : List ℕ) → length s ≤ upto 9 s → columns_from c s ≡ (c ++ s) ∷ []
unfolding columns_from upto
columns_last c [] h = rw (append-nil c)
columns_last c (b ∷ bs) h =
    bool_cases (eqb b 9)
    (λ t. let g : suc (length bs) ≤ 0 = rw t at h in absurd (omega arith))
    (λ t. let g : suc (length bs) ≤ suc (upto 9 bs) = rw t at h in
    rw t (columns_last (c ++ b ∷ []) bs (omega arith) ∙ ap (λ (x : List ℕ). x ∷ []) (append_assoc c (b ∷ []) bs)))

-- a column that starts at a place, and the next one
module _ (text : List ℕ) (start e : ℕ) (ends : e ≡ start + upto 9 (drop start text)) where
  pub column_here : column_at (columns_of (drop start text)) 0 ≡ part_of text start e
  unfolding columns_of
  column_here =
      let z : e - start ≡ upto 9 (drop start text) = omega arith in
      bool_cases (ltb (upto 9 (drop start text)) (length (drop start text)))
      (λ t. rw (z, columns_more [] (drop start text) (ltb-true _ _ t)))
      (λ t. let g : length (drop start text) ≤ upto 9 (drop start text) = ltb-false _ _ t in
      rw (z, columns_last [] (drop start text) g, take_all (upto 9 (drop start text)) (drop start text) g))

  pub column_next : (j : ℕ) → e < length text → column_at (columns_of (drop start text)) (suc j) ≡ column_at (columns_of (drop (e + 1) text)) j
  unfolding columns_of
  column_next j h =
      let l : length (drop start text) ≡ length text - start = length-drop start text in
      let n : start + suc (upto 9 (drop start text)) ≡ e + 1 = omega arith in
      rw (columns_more [] (drop start text) (omega arith), drop-drop (suc (upto 9 (drop start text))) start text, n)

  pub column_none : (j : ℕ) → length text ≤ e → column_at (columns_of (drop start text)) (suc j) ≡ []
  unfolding columns_of
  column_none j h =
      let l : length (drop start text) ≡ length text - start = length-drop start text in
      rw (columns_last [] (drop start text) (omega arith))
