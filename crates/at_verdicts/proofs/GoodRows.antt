-- The good rows of tables are the rows with verdict 0, and say what their lines do.
use mathlib.Core.Path.{◌≡◌, refl, sym, ap, ap₂, ◌∙◌}
use mathlib.Core.Bool.{true}
use mathlib.Core.List.Memᴰ
use mathlib.Core.List.{List, [], ◌∷◌, Memᴰ}
use Prim.Native.Nat.{ℕ, zero, suc, ◌+◌, ◌-◌, ◌≤◌, ◌<◌}
use native.Mathlib.Omega.{arith}
use native.Mathlib.Nat.{le_of_suc-le-suc, not-suc-le-zero}
use lib.ListN.{length, get_or}
use borrow.Author.Tests.{eqb-true, eq-eqb}
use Rattle.laws.proofs.Cases.{and_left}
use Rattle.laws.proofs.Tests.{keep_mem, mem_keep}
use Rattle.lines.specs.Lines.{Line, lines_of}
use Rattle.schemas.specs.declared.Table.{Table}
use Rattle.formed.specs.Formed.{formed}
use Rattle.verdicts.specs.Facts.{facts_of}
use Rattle.verdicts.specs.Entries.{Entry, reading_of, own, facts, carried, all_rows}
use Rattle.verdicts.specs.Verdicts.{sound, verdict}
use Rattle.verdicts.specs.Good.{Good}
use Rattle.verdicts.specs.Places.{text_at, no_line, entry_at, verdict_at}
use Rattle.verdicts.proofs.EntryLaws.{own_reading, row_in, row_of}
use Rattle.verdicts.proofs.GoodLaw.{good_law}
use Rattle.database.specs.Rows.{Row}
use Rattle.database.specs.GoodRows.{rows_of, rows_from, rows_in, is_good, good_rows, table_of}
use Rattle.database.proofs.RowLaws.{in_tables}
use Rattle.refusal_places.proofs.GoodRows.{HasLine}

-- Every place has its row

line_row : (t r start : ℕ) (ls : List Line) (j : ℕ) → j < length ls
    → (row : Row) × Memᴰ row (rows_of t r start ls) × (row.table ≡ t) × (row.number ≡ r + j)
unfolding rows_of
line_row t r start [] j h = absurd (not-suc-le-zero h)
line_row t r start (l ∷ ls) zero h = (record { table = t; number = r; start = start; bytes = l.bytes }, Memᴰ.head refl, refl, omega arith)
line_row t r start (l ∷ ls) (suc j) h =
    let w = line_row t (suc r) (start + length l.bytes + 1) ls j (le_of_suc-le-suc h) in
    (w.0, Memᴰ.tail w.1, w.2, omega (arith, w.3))

table_row : (t u j : ℕ) (tables : List Table) (texts : List (List ℕ)) → u < length tables → j < length (lines_of (text_at texts u))
    → (row : Row) × Memᴰ row (rows_from t tables texts) × (row.table ≡ t + u) × (row.number ≡ suc j)
unfolding rows_from lines_of
table_row t u j [] texts h k = absurd (not-suc-le-zero h)
table_row t u j (table ∷ tables) [] h k = absurd (not-suc-le-zero k)
table_row t zero j (table ∷ tables) (text ∷ texts) h k =
    let w = line_row t 1 0 (lines_of text) j k in
    (w.0, Memᴰ.append_left (rows_from (suc t) tables texts) w.1, omega (arith, w.2), omega (arith, w.3))
table_row t (suc u) j (table ∷ tables) (text ∷ texts) h k =
    let w = table_row (suc t) u j tables texts (le_of_suc-le-suc h) k in
    (w.0, Memᴰ.append_right (rows_of t 1 0 (lines_of text)) w.1, omega (arith, w.2), w.3)

-- Good rows

-- a row among all rows
abbrev pub entry_of : List (List ℕ) → Row → Entry
entry_of texts row = entry_at texts row.table row.number

-- what 01 asks of a good row, and that it says what its line does
pub record GoodRow (texts : List (List ℕ)) (row : Row) : Type 0 where
  pub there : Memᴰ (entry_of texts row) (all_rows texts)
  pub good : Good (all_rows texts) (entry_of texts row)
  pub says : facts (entry_of texts row) ≡ facts_of (table_of row) row.bytes

abbrev line_of : List (List ℕ) → Row → Line
line_of texts row = get_or (lines_of (text_at texts row.table)) (row.number - 1) no_line

-- 01: "Good is 0"
verdict_good : (texts : List (List ℕ)) (row : Row) → is_good texts row ≡ true → Good (all_rows texts) (entry_of texts row)
unfolding is_good verdict_at
verdict_good texts row g = (good_law (all_rows texts) (entry_of texts row)).0 (eqb-true _ 0 g)

-- without reasons 1 to 8
sound_formed : (texts : List (List ℕ)) (row : Row) → sound (all_rows texts) (entry_of texts row) ≡ true → formed (table_of row) (line_of texts row) ≡ 0
unfolding entry_at sound
sound_formed texts row g =
    sym (own_reading (table_of row) (line_of texts row)) ∙ eqb-true (own (entry_of texts row).reading) 0 (and_left _ _ g)

line_says : (texts : List (List ℕ)) (row : Row) → sound (all_rows texts) (entry_of texts row) ≡ true
    → facts (entry_of texts row) ≡ facts_of (table_of row) (line_of texts row).bytes
unfolding entry_at reading_of
line_says texts row g = rw (sound_formed texts row g)

its_line : (texts : List (List ℕ)) (row : Row) → Memᴰ row (rows_in texts) → row.bytes ≡ (line_of texts row).bytes
unfolding rows_in
its_line texts row m =
    let w = in_tables 0 carried texts row m in
    let z : row.table - 0 ≡ row.table = omega arith in
    rw z at w.4

-- a row without reasons 1 to 9 says what its line does
pub sound_says : (texts : List (List ℕ)) (row : Row) → Memᴰ row (rows_in texts) → sound (all_rows texts) (entry_of texts row) ≡ true
    → facts (entry_of texts row) ≡ facts_of (table_of row) row.bytes
sound_says texts row m g = line_says texts row g ∙ ap (facts_of (table_of row)) (sym (its_line texts row m))

pub good_row : (texts : List (List ℕ)) (row : Row) → Memᴰ row (good_rows texts) → GoodRow texts row
unfolding good_rows rows_in
good_row texts row m =
    let k = keep_mem (is_good texts) (rows_in texts) m in
    let w = in_tables 0 carried texts row k.0 in
    let z : row.table - 0 ≡ row.table = omega arith in
    let h : row.number ≤ length (lines_of (text_at texts row.table)) = rw z at w.3 in
    let g = verdict_good texts row k.1 in
    record {
      there = row_in texts row.table row.number (record { table = omega (arith, w.1); above = w.2; below = h });
      good = g;
      says = sound_says texts row k.0 g.is_sound;
    }

-- its line passes its table's columns
pub good_line : (texts : List (List ℕ)) (row : Row) → Memᴰ row (good_rows texts) → HasLine (table_of row) row
unfolding good_rows
good_line texts row m =
    let k = keep_mem (is_good texts) (rows_in texts) m in
    record {
      line = line_of texts row;
      passes = sound_formed texts row (verdict_good texts row k.1).is_sound;
      bytes = its_line texts row k.0;
    }

-- good rows of one table and number have one line
pub same_line : (texts : List (List ℕ)) (a b : Row) → Memᴰ a (good_rows texts) → Memᴰ b (good_rows texts) → a.table ≡ b.table
    → a.number ≡ b.number → a.bytes ≡ b.bytes
unfolding good_rows
same_line texts a b m i t n =
    its_line texts a (keep_mem (is_good texts) (rows_in texts) m).0
    ∙ ap₂ (λ (t n : ℕ). (get_or (lines_of (text_at texts t)) (n - 1) no_line).bytes) t n
    ∙ sym (its_line texts b (keep_mem (is_good texts) (rows_in texts) i).0)

-- an entry of which the verdict is 0 has its good row
pub record RowOf (texts : List (List ℕ)) (e : Entry) : Type 0 where
  pub row : Row
  pub among : Memᴰ row (good_rows texts)
  pub is : entry_of texts row ≡ e

pub is_good_lem : (texts : List (List ℕ)) (row : Row) (e : Entry) → entry_of texts row ≡ e → verdict (all_rows texts) e ≡ 0 → is_good texts row ≡ true
unfolding is_good verdict_at
is_good_lem texts row e q v = eq-eqb _ 0 (ap (verdict (all_rows texts)) q ∙ v)

pub row_good : (texts : List (List ℕ)) (e : Entry) → Memᴰ e (all_rows texts) → verdict (all_rows texts) e ≡ 0 → RowOf texts e
unfolding good_rows rows_in
row_good texts e m v =
    let o = row_of texts e m in
    let w = table_row 0 e.table (e.row - 1) carried texts o.0.table (omega (arith, o.0.above, o.0.below)) in
    let t : w.0.table ≡ e.table = omega (arith, w.2) in
    let r : w.0.number ≡ e.row = omega (arith, w.3, o.0.above) in
    let q : entry_of texts w.0 ≡ e = rw (t, r) (sym o.1) in
    record { row = w.0; among = mem_keep (is_good texts) (rows_in texts) w.1 (is_good_lem texts w.0 e q v); is = q }
