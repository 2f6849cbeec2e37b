-- Which row of the tables stands at a place, and that the arrays have it there.
use mathlib.Core.Path.{◌≡◌, refl, ap, sym, ◌∙◌}
use mathlib.Core.List.{List, [], ◌∷◌}
use Prim.Native.Nat.{ℕ, zero, suc, ◌+◌, ◌-◌, ◌<◌}
use native.Mathlib.Omega.{arith}
use native.Mathlib.Nat.{le_of_suc-le-suc, not-suc-le-zero}
use lib.ListN.{length, get_or, take, length-append, get_or-append}
use lib.Seq.{get_or-append-add}
use Rattle.lines.specs.Lines.{Line, lines_of, line_from}
use Rattle.schemas.specs.declared.Table.{Table}
use Rattle.verdicts.specs.Entries.{carried, all_rows}
use Rattle.verdicts.specs.Places.{text_at, no_line, rows_before}
use Rattle.verdicts.proofs.EntryLaws.{length_rows}
use Rattle.kept.specs.FirstPass.{Situated}
use Rattle.kept.proofs.SituationLaws.{line_below, start_below, line_there}
use Rattle.database.specs.Rows.{Row}
use Rattle.database.specs.GoodRows.{rows_of, rows_from, rows_in}
use Rattle.loading.proofs.StartLaws.{extent, start_is}

abbrev pub row : (t r start : ℕ) → List ℕ → Row
row t r start bytes = record { table = t; number = r; start = start; bytes = bytes }

-- row i of the tables, from 0
abbrev pub no_row : Row
no_row = row 0 0 0 []

abbrev pub row_in : List (List ℕ) → ℕ → Row
row_in texts i = get_or (rows_in texts) i no_row

-- One table

length_rows_of : (t r start : ℕ) (lines : List Line) → length (rows_of t r start lines) ≡ length lines
unfolding rows_of
length_rows_of t r start [] = refl
length_rows_of t r start (line ∷ lines) = ap suc (length_rows_of t (suc r) (start + length line.bytes + 1) lines)

-- the row after k others
rows_of_at : (t r start k i s : ℕ) (lines : List Line) (d : Row) (z : Line) → k < length lines → r + k ≡ i → start + extent (take k lines) ≡ s
    → get_or (rows_of t r start lines) k d ≡ row t i s (get_or lines k z).bytes
unfolding rows_of extent
rows_of_at t r start k i s [] d z h e f = absurd (not-suc-le-zero h)
rows_of_at t r start zero i s (line ∷ lines) d z h e f =
    let p : r ≡ i = omega arith in
    let q : start ≡ s = omega arith in
    rw (p, q)
rows_of_at t r start (suc k) i s (line ∷ lines) d z h e f =
    rows_of_at t (suc r) (start + length line.bytes + 1) k i s lines d z (le_of_suc-le-suc h) (omega arith) (omega arith)

-- All tables

length_from : (t : ℕ) (tables : List Table) (texts : List (List ℕ)) → length (rows_from t tables texts) ≡ rows_before texts (length tables)
unfolding rows_from rows_before
length_from t [] texts = refl
length_from t (table ∷ tables) [] = refl
length_from t (table ∷ tables) (text ∷ texts) = simp (length-append, length_rows_of, length_from (suc t) tables texts)

-- there are as many rows as entries
pub length_rows_in : (texts : List (List ℕ)) → length (rows_in texts) ≡ length (all_rows texts)
unfolding rows_in
length_rows_in texts = length_from 0 carried texts ∙ sym (length_rows texts)

-- the row after j others of the table after u others
from_at : (n m u j : ℕ) (tables : List Table) (texts : List (List ℕ)) (d : Row) (z : Line)
    → n + u ≡ m → u < length tables → j < length (lines_of (text_at texts u))
    → get_or (rows_from n tables texts) (rows_before texts u + j) d
    ≡ row m (suc j) (extent (take j (lines_of (text_at texts u)))) (get_or (lines_of (text_at texts u)) j z).bytes
unfolding rows_from rows_before lines_of
from_at n m u j [] texts d z e h k = absurd (not-suc-le-zero h)
from_at n m u j (table ∷ tables) [] d z e h k = absurd (not-suc-le-zero k)
from_at n m zero j (table ∷ tables) (text ∷ texts) d z e h k =
    let q : n ≡ m = omega arith in
    let p : 0 + j ≡ j = omega arith in
    rw (p, q)
    (get_or-append (rows_of m 1 0 (lines_of text)) (rows_from (suc m) tables texts) d j (rw (length_rows_of m 1 0 (lines_of text)) k)
    ∙ rows_of_at m 1 0 j (suc j) (extent (take j (lines_of text))) (lines_of text) d z k (omega arith) (omega arith))
from_at n m (suc u) j (table ∷ tables) (text ∷ texts) d z e h k =
    let q : length (rows_of n 1 0 (lines_of text)) ≡ length (lines_of text) = length_rows_of n 1 0 (lines_of text) in
    let p : length (lines_of text) + rows_before texts u + j ≡ length (rows_of n 1 0 (lines_of text)) + (rows_before texts u + j) = omega arith in
    rw (p, get_or-append-add) (from_at (suc n) m u j tables texts d z (omega arith) (le_of_suc-le-suc h) k)

-- a row by where it is kept
module _ {texts : List (List ℕ)} {t start i : ℕ} (w : Situated texts t start i) where
  abbrev j : ℕ
  j = i - rows_before texts t

  pub row_there : row_in texts i ≡ row t (suc j) start (line_from (text_at texts t) start).bytes
  unfolding rows_in
  row_there =
      let z : rows_before texts t + j ≡ i = omega (arith, w.low) in
      let p = line_below texts t start i w in
      let s : start ≡ extent (take j (lines_of (text_at texts t))) = start_is (text_at texts t) j start p (start_below texts t start i w) w.start in
      rw z at (from_at 0 t t j carried texts no_row no_line (omega arith) (omega (arith, w.below)) p) ∙ rw (← s, line_there w)
