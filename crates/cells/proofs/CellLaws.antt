-- The cell of a row by its table's cells, and what it says after an import.
use mathlib.Core.Path.{◌≡◌, refl, sym, ap, ◌∙◌}
use mathlib.Core.Bool.{Bool, true, false, cond, ◌&&◌}
use mathlib.Core.List.{List}
use Prim.Native.Nat.{ℕ, suc, ◌+◌, ◌-◌, ◌≤◌, ◌<◌}
use native.Mathlib.Omega.{arith}
use native.Mathlib.Numerals.{add-one}
use lib.Dec.{eqb, ltb, leb}
use lib.ListN.{length}
use borrow.Author.Tests.{ltb-true, leb-true, eqb-true, lt-ltb, le-leb}
use Rattle.std.specs.Prelude.{Some, None}
use Rattle.laws.proofs.Cases.{and_left, and_right, and_both, and_false, false_of}
use Rattle.lines.specs.Lines.{lines_of}
use Rattle.verdicts.specs.Answer.{refused, taken, too_long, too_many_rows, zeros, import_of, most_rows}
use Rattle.verdicts.specs.Entries.{all_rows, table_count}
use Rattle.verdicts.specs.Verdicts.{verdicts}
use Rattle.verdicts.specs.Places.{text_at, IsRow, rows_before, place, verdict_at}
use Rattle.verdicts.specs.Positions.{position_told}
use Rattle.verdicts.specs.Imports.{Lent, room_of, Takes, imported}
use Rattle.verdicts.proofs.EntryLaws.{rows_before_next}
use Rattle.verdicts.proofs.CellLaws.{imported_at, imported_position}
use Rattle.tables.specs.Sizes.{fit, refused_by, size_refusal, sizes_of}
use Rattle.tables.specs.declared.SizeError.{SizeError}
use Rattle.tables.specs.declared.SizeError.TheVariants.{TooLong, TooManyRows}
use Rattle.tables.proofs.SizeLaws.{few}
use Rattle.cells.specs.declared.TableCells.{TableCells}
use Rattle.cells.specs.Cells.{is_fit, have_cells, is_table, is_row, cell_of, no_cells, cells_of, cell_in, verdict_in}

on : {A : Type 0} {t : Bool} (a b : A) → t ≡ true → cond t a b ≡ a
on a b e = rw e

off : {A : Type 0} {t : Bool} (a b : A) → t ≡ false → cond t a b ≡ b
off a b e = rw e

-- Among a table's cells

module _ (cells : TableCells) (r : ℕ) where
  pub in_none : (0 < r → r ≤ cells.end - cells.start → ⊥) → None ≡ cell_in cells r
  unfolding cell_in
  in_none h =
      let room = cells.end - cells.start in
      let no : (ltb 0 r && leb r room) ≡ false = false_of (ltb 0 r && leb r room)
      (λ e. h (ltb-true 0 r (and_left (ltb 0 r) (leb r room) e)) (leb-true r room (and_right (ltb 0 r) (leb r room) e)))
      in
      sym (off (Some (cells.start + (r - 1))) None no)

  pub in_some : 0 < r → r ≤ cells.end - cells.start → Some (cells.start + (r - 1)) ≡ cell_in cells r
  unfolding cell_in
  in_some h k = sym (on (Some (cells.start + (r - 1))) None (and_both (lt-ltb 0 r h) (le-leb r (cells.end - cells.start) k)))

-- The cells of a table

pub table_is : (n : ℕ) → 0 < n → n ≤ table_count → is_table n ≡ true
unfolding is_table
table_is n h k = and_both (lt-ltb 0 n h) (le-leb n table_count k)

table_low : (n : ℕ) → is_table n ≡ true → 0 < n
unfolding is_table
table_low n e = ltb-true 0 n (and_left (ltb 0 n) (leb n table_count) e)

table_high : (n : ℕ) → is_table n ≡ true → n ≤ table_count
unfolding is_table
table_high n e = leb-true n table_count (and_right (ltb 0 n) (leb n table_count) e)

same_cells : {a b c d : ℕ} → a ≡ c → b ≡ d → ◌≡◌ {A = TableCells} (record { start = a; end = b }) (record { start = c; end = d })
same_cells p q = rw (p, q)

module _ (texts : List (List ℕ)) (n : ℕ) where
  pub no_table : (0 < n → n ≤ table_count → ⊥) → no_cells ≡ cells_of texts n
  unfolding cells_of
  no_table h =
      let e : is_table n ≡ false = false_of (is_table n) (λ t. h (table_low n t) (table_high n t)) in
      let none : (have_cells texts && is_table n) ≡ false = rw e (and_false (have_cells texts)) in
      sym (off (record { start = rows_before texts (n - 1); end = rows_before texts n }) no_cells none)

  pub refused_cells : {number place : ℕ} → sizes_of texts ≡ refused_by number place → no_cells ≡ cells_of texts n
  unfolding cells_of have_cells
  refused_cells e = rw e

  pub size_cells : (error : SizeError) → sizes_of texts ≡ size_refusal error → no_cells ≡ cells_of texts n
  size_cells (TooLong table) e = refused_cells e
  size_cells (TooManyRows table) e = refused_cells e

  pub fitting_cells : (cells : TableCells) → sizes_of texts ≡ fit → 0 < n → n ≤ table_count
      → cells.start ≡ rows_before texts (n - 1) → cells.end ≡ rows_before texts (suc (n - 1)) → cells ≡ cells_of texts n
  unfolding cells_of have_cells
  fitting_cells cells e h k p q =
      let s : suc (n - 1) ≡ n = omega arith in
      same_cells p (q ∙ ap (rows_before texts) s)
      ∙ sym (on (record { start = rows_before texts (n - 1); end = rows_before texts n }) no_cells (and_both (ap is_fit e) (table_is n h k)))

-- Counting rows

module _ (texts : List (List ℕ)) (all : length texts ≡ table_count) (e : sizes_of texts ≡ fit) where
  few_rows : too_many_rows texts ≡ 0
  unfolding sizes_of
  few_rows = go (eqb (too_long texts) 0) (eqb (too_many_rows texts) 0) refl e
    where
      go : (a b : Bool) → eqb (too_many_rows texts) 0 ≡ b
          → cond a (cond b fit (refused_by 2 (too_many_rows texts))) (refused_by 1 (too_long texts)) ≡ fit → too_many_rows texts ≡ 0
      go true true p q = eqb-true (too_many_rows texts) 0 p
      go true false p q = cc
      go false b p q = cc

  module _ (t rows : ℕ) (text : List ℕ) (h : t < table_count) (is : text ≡ text_at texts t) (count : rows ≡ length (lines_of text)) where
    counted : rows ≡ length (lines_of (text_at texts t))
    counted = count ∙ ap (λ (s : List ℕ). length (lines_of s)) is

    pub at_most : rows ≤ most_rows
    at_most = omega (arith, counted, few texts t (omega arith) few_rows)

    pub rows_next : {n : ℕ} → n ≡ rows_before texts t → n + rows ≡ rows_before texts (suc t)
    rows_next p = omega (arith, counted, p, rows_before_next texts t)

    pub rows_more : {n : ℕ} → n ≡ rows_before texts t → n + rows ≡ rows_before texts (t + 1)
    rows_more p = rows_next p ∙ ap (rows_before texts) (sym (add-one t))

-- A row's cell by its table's cells

module _ (texts : List (List ℕ)) (n r : ℕ) where
  -- a table has a cell for each of its rows
  own_rows : is_table n ≡ true → rows_before texts n - rows_before texts (n - 1) ≡ length (lines_of (text_at texts (n - 1)))
  own_rows e =
      let h : 0 < n = table_low n e in
      let s : n ≡ suc (n - 1) = omega arith in
      omega (arith, ap (rows_before texts) s, rows_before_next texts (n - 1))

  pub cell_is : cell_in (cells_of texts n) r ≡ cell_of texts n r
  unfolding cell_of cells_of is_row cell_in place
  cell_is = go (have_cells texts) (is_table n) refl
    where
      none : cell_in no_cells r ≡ None
      none = sym (in_none no_cells r (λ h k. omega arith))

      go : (a b : Bool) → is_table n ≡ b
          → cell_in (cond (a && b) (record { start = rows_before texts (n - 1); end = rows_before texts n }) no_cells) r
          ≡ cond (a && (b && (ltb 0 r && leb r (length (lines_of (text_at texts (n - 1))))))) (Some (rows_before texts (n - 1) + (r - 1))) None
      go false b e = none
      go true false e = none
      go true true e = ap (λ (k : ℕ). cond (ltb 0 r && leb r k) (Some (rows_before texts (n - 1) + (r - 1))) None) (own_rows e)

  -- `is_row` is `IsRow` as a test
  pub is_row_lem : is_row texts n r ≡ true → IsRow texts (n - 1) r
  unfolding is_row
  is_row_lem e =
      let rows = length (lines_of (text_at texts (n - 1))) in
      let t : is_table n ≡ true = and_left (is_table n) (ltb 0 r && leb r rows) e in
      let s : (ltb 0 r && leb r rows) ≡ true = and_right (is_table n) (ltb 0 r && leb r rows) e in
      record {
        table = omega (arith, table_low n t, table_high n t);
        above = ltb-true 0 r (and_left (ltb 0 r) (leb r rows) s);
        below = leb-true r rows (and_right (ltb 0 r) (leb r rows) s);
      }

  pub row_is : 0 < n → IsRow texts (n - 1) r → is_row texts n r ≡ true
  unfolding is_row
  row_is h is = and_both (table_is n h (omega (arith, is.table))) (and_both (lt-ltb 0 r is.above) (le-leb r _ is.below))

-- After an import

module _ (texts : List (List ℕ)) (lent : Lent) (takes : Takes texts lent) where
  taken_fits : have_cells texts ≡ true
  unfolding have_cells sizes_of import_of
  taken_fits =
      go (eqb (too_long texts) 0) (eqb (too_many_rows texts) 0) (ltb (room_of lent) (length (all_rows texts))) (too_many_rows texts) (too_long texts)
      (length (all_rows texts)) (zeros (verdicts texts)) takes.rows takes.good takes.answer
    where
      go : (a b c : Bool) (p q k z n g : ℕ) → cond a (cond b (cond c (refused 3 0) (taken k z)) (refused 2 p)) (refused 1 q) ≡ taken n g
          → is_fit (cond a (cond b fit (refused_by 2 p)) (refused_by 1 q)) ≡ true
      go true true c p q k z n g e = refl
      go true false c p q k z n g e = cc
      go false b c p q k z n g e = cc

  module _ (n r : ℕ) (h : 0 < n) (is : IsRow texts (n - 1) r) where
    -- where an import takes the tables, each row has its cell
    pub has_cell : cell_of texts n r ≡ Some (place texts (n - 1) r)
    unfolding cell_of
    has_cell = on (Some (place texts (n - 1) r)) None (and_both taken_fits (row_is texts n r h is))

    -- and its verdict stands in it
    pub says_verdict : verdict_in (imported texts lent).cells (cell_of texts n r) ≡ verdict_at texts (n - 1) r
    says_verdict = ap (verdict_in (imported texts lent).cells) has_cell ∙ imported_at texts lent takes (n - 1) r is

    -- and at the same place its position
    pub says_position : verdict_in (imported texts lent).positions (cell_of texts n r) ≡ position_told texts (n - 1) r
    says_position = ap (verdict_in (imported texts lent).positions) has_cell ∙ imported_position texts lent takes (n - 1) r is
