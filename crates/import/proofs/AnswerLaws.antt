-- The cells after judging, and the answer of an import by its three tests.
use mathlib.Core.Path.{◌≡◌, refl, ap, ◌∙◌}
use mathlib.Core.Bool.{Bool, true, false, cond}
use mathlib.Core.List.{List, ◌++◌}
use Prim.Native.Nat.{ℕ, ◌≤◌, ◌<◌}
use native.Mathlib.Omega.{arith}
use native.Mathlib.Nat.{zero-add}
use lib.Dec.{eqb, ltb}
use lib.ListN.{length, take, drop}
use lib.Seq.{sets, sets-eq, length-sets, take_at}
use borrow.Author.Tests.{lt-ltb, le-ltb}
use Rattle.verdicts.specs.Entries.{all_rows}
use Rattle.verdicts.specs.Verdicts.{verdicts}
use Rattle.verdicts.specs.Answer.{Imported, refused, taken, zeros, too_long, too_many_rows, import_of}
use Rattle.verdicts.proofs.CellLaws.{length_cells}
use Rattle.tables.specs.Sizes.{fit, refused_by, sizes_of}
use Rattle.import.specs.Judged.{judged_cells}

module _ (texts : List (List ℕ)) (cells : List ℕ) where
  -- too few cells stay as they are
  pub cells_few : length cells < length (all_rows texts) → judged_cells texts cells ≡ cells
  unfolding judged_cells
  cells_few h = rw (lt-ltb _ _ h)

  module _ (h : length (all_rows texts) ≤ length cells) where
    pub cells_enough : judged_cells texts cells ≡ sets cells 0 (verdicts texts)
    unfolding judged_cells
    cells_enough = rw (le-ltb _ _ h)

    -- one for each row, and then what stood there
    pub cells_are : judged_cells texts cells ≡ verdicts texts ++ drop (length (all_rows texts)) cells
    cells_are = cells_enough ∙ sets-eq (verdicts texts) cells 0 (omega (arith, length_cells texts)) ∙ rw (zero-add, length_cells texts)

    -- the first of them are the verdicts
    pub cells_first : take (length (all_rows texts)) (judged_cells texts cells) ≡ verdicts texts
    cells_first = ap (take (length (all_rows texts))) cells_are ∙ take_at (verdicts texts) _ (length (all_rows texts)) (length_cells texts)

  -- as many as there were
  pub cells_count : length (judged_cells texts cells) ≡ length cells
  unfolding judged_cells
  cells_count = go (ltb (length cells) (length (all_rows texts)))
    where
      go : (b : Bool) → length (cond b cells (sets cells 0 (verdicts texts))) ≡ length cells
      go true = refl
      go false = length-sets cells 0 (verdicts texts)

module _ (texts : List (List ℕ)) (room : ℕ) where
  -- refusals 1 and 2
  pub answer_refused : {number table : ℕ} → sizes_of texts ≡ refused_by number table → import_of texts room ≡ refused number table
  unfolding import_of sizes_of
  answer_refused {number} {table} e = go (eqb (too_long texts) 0) (eqb (too_many_rows texts) 0) _ _ _ e
    where
      go : (a b : Bool) (p q : ℕ) (x : Imported) → cond a (cond b fit (refused_by 2 p)) (refused_by 1 q) ≡ refused_by number table
          → cond a (cond b x (refused 2 p)) (refused 1 q) ≡ refused number table
      go true true p q x e = cc
      go true false p q x e = cc
      go false b p q x e = cc

  -- refusal 3, and none
  module _ (short : too_long texts ≡ 0) (few : too_many_rows texts ≡ 0) where
    pub answer_few : room < length (all_rows texts) → import_of texts room ≡ refused 3 0
    unfolding import_of
    answer_few h = rw (short, few, lt-ltb _ _ h)

    pub answer_taken : length (all_rows texts) ≤ room → import_of texts room ≡ taken (length (all_rows texts)) (zeros (verdicts texts))
    unfolding import_of
    answer_taken h = rw (short, few, le-ltb _ _ h)
