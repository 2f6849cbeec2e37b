-- Texts put one after the other at the start of a buffer.
use Prim.Native.Nat.{ℕ, ◌+◌, ◌-◌, ◌≤◌}
use mathlib.Core.Path.{◌≡◌, sym, ap, ap₂, ◌∙◌}
use mathlib.Core.List.{List, [], ◌++◌, append_assoc, append-nil}
use native.Mathlib.Omega.{arith}
use lib.ListN.{length, take, drop, length-append, length-drop, drop_of_length-le}
use lib.Seq.{take_at, take-length, drop-append-add, drop-drop}
use borrow.Rule.Slice.PartMut.{mid_of, post_of, put_mid}
use Rattle.laws.proofs.Lists as lists
use Rattle.files.specs.Paths.{put_first}

-- a text put at a place of a path
module _ (path text : List ℕ) (at : ℕ) where
  behind : post_of at (length path - at) path ≡ []
  behind =
      let l : length (drop at path) ≤ length path - at = simp length-drop (omega arith) in
      drop_of_length-le (drop at path) l

  pub put_at : (part : List ℕ) → part ≡ take (length text) text ++ drop (length text) (mid_of at (length path - at) path)
      → put_mid at (length path - at) path part ≡ take at path ++ (text ++ drop (at + length text) path)
  put_at part e =
      let p : part ≡ text ++ drop (at + length text) path = e
      ∙ ap₂ (λ (a b : List ℕ). a ++ b) (take-length text) (ap (λ (l : List ℕ). drop (length text) l) (lists.rest path at) ∙ drop-drop (length text) at path)
      in
      ap (λ (l : List ℕ). take at path ++ l) (ap₂ (λ (a b : List ℕ). a ++ b) p behind ∙ append-nil (text ++ drop (at + length text) path))

module _ (path done text : List ℕ) where
  -- what is behind a text that is put after those that stand there
  rest : {n : ℕ} → n ≡ length done → drop (n + length text) (put_first done path) ≡ drop (length (done ++ text)) path
  rest e =
      ap (λ (k : ℕ). drop (k + length text) (put_first done path)) e ∙ drop-append-add done (drop (length done) path) (length text)
      ∙ drop-drop (length text) (length done) path ∙ ap (λ (k : ℕ). drop k path) (sym (length-append done text))

  more : {n : ℕ} → n ≡ length done → take n (put_first done path) ++ (text ++ drop (n + length text) (put_first done path)) ≡ put_first (done ++ text) path
  more {n} e =
      rw (take_at done (drop (length done) path) n (sym e), rest e) (sym (append_assoc done text (drop (length (done ++ text)) path)))

  pub put_next : {n : ℕ} (before after : List ℕ) → before ≡ put_first done path → n ≡ length done
      → after ≡ take n before ++ (text ++ drop (n + length text) before) → after ≡ put_first (done ++ text) path
  put_next {n} before after b e a = a ∙ ap (λ (l : List ℕ). take n l ++ (text ++ drop (n + length text) l)) b ∙ more e

  pub put_length : {n m : ℕ} → n ≡ length done → m ≡ n + length text → m ≡ length (done ++ text)
  put_length e q = simp length-append (omega arith)
