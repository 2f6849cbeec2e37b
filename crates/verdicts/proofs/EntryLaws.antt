-- Which rows there are, how many, and which stands where.
use mathlib.Core.Path.{◌≡◌, refl, sym, ap, ◌∙◌}
use mathlib.Core.Logic.{◌⊎◌, inl, inr}
use mathlib.Core.Bool.{true}
use mathlib.Core.List.Memᴰ
use mathlib.Core.List.{List, [], ◌∷◌, Memᴰ}
use Prim.Native.Nat.{ℕ, zero, suc, ◌+◌, ◌-◌, ◌≤◌, ◌<◌}
use native.Mathlib.Omega.{arith}
use native.Mathlib.Nat.{le_of_suc-le-suc, not-suc-le-zero}
use lib.Dec.{eqb}
use lib.ListN.{length, get_or, length-append, get_or-append}
use lib.Seq.{get_or-append-add}
use borrow.Author.Tests.{eqb-true}
use Rattle.laws.proofs.Cases.{cond_cases, and_left, and_right}
use Rattle.laws.proofs.Lists.{at_mem}
use Rattle.lines.specs.Lines.{Line, lines_of}
use Rattle.schemas.specs.declared.Table.{Table}
use Rattle.schemas.specs.declared.Table.TheVariants.{Ocp}
use Rattle.formed.specs.Formed.{formed}
use Rattle.verdicts.specs.Entries.{RowReading, reading_of, own, Entry, entry, carried, entries_of, entries_from, all_rows, table_count, carried_at}
use Rattle.verdicts.specs.Steps.{twin}
use Rattle.verdicts.specs.Places.{text_at, no_line, IsRow, entry_at, rows_before, place}

-- a row's own verdict is that of reasons 1 to 8
pub own_reading : (table : Table) (line : Line) → own (reading_of table line) ≡ formed table line
unfolding reading_of
own_reading table line = cond_cases (λ (r : RowReading). own r ≡ formed table line) (eqb (formed table line) 0) (λ t. sym (eqb-true _ 0 t)) (λ _. refl)

-- One table

-- as many rows as lines
pub length_entries : (table : Table) (t row : ℕ) (lines : List Line) → length (entries_of table t row lines) ≡ length lines
unfolding entries_of
length_entries table t row [] = refl
length_entries table t row (line ∷ lines) = ap suc (length_entries table t (suc row) lines)

-- the row after k others
entries_at : (table : Table) (t row k i : ℕ) (lines : List Line) (d : Entry) (z : Line) → k < length lines → row + k ≡ i
    → get_or (entries_of table t row lines) k d ≡ entry table t i (get_or lines k z)
unfolding entries_of
entries_at table t row k i [] d z h e = absurd (not-suc-le-zero h)
entries_at table t row zero i (line ∷ lines) d z h e = let q : row ≡ i = omega arith in rw q
entries_at table t row (suc k) i (line ∷ lines) d z h e = entries_at table t (suc row) k i lines d z (le_of_suc-le-suc h) (omega arith)

-- All tables

-- one table more
pub rows_before_next : (texts : List (List ℕ)) (u : ℕ) → rows_before texts (suc u) ≡ rows_before texts u + length (lines_of (text_at texts u))
unfolding rows_before lines_of
rows_before_next [] zero = refl
rows_before_next [] (suc u) = refl
rows_before_next (text ∷ texts) zero = omega arith
rows_before_next (text ∷ texts) (suc u) = omega (arith, rows_before_next texts u)

-- as many rows as the tables have
length_from : (t : ℕ) (tables : List Table) (texts : List (List ℕ)) → length (entries_from t tables texts) ≡ rows_before texts (length tables)
unfolding entries_from rows_before
length_from t [] texts = refl
length_from t (table ∷ tables) [] = refl
length_from t (table ∷ tables) (text ∷ texts) = simp (length-append, length_entries, length_from (suc t) tables texts)

-- there are as many rows as all tables have
pub length_rows : (texts : List (List ℕ)) → length (all_rows texts) ≡ rows_before texts table_count
unfolding all_rows
length_rows texts = length_from 0 carried texts

-- the rows before a table and its own are among all tables' rows
before_fits : (texts : List (List ℕ)) (u n : ℕ) → u < n → rows_before texts u + length (lines_of (text_at texts u)) ≤ rows_before texts n
unfolding rows_before lines_of
before_fits texts u zero h = absurd (not-suc-le-zero h)
before_fits [] zero (suc n) h = omega arith
before_fits [] (suc u) (suc n) h = omega arith
before_fits (text ∷ texts) zero (suc n) h = omega arith
before_fits (text ∷ texts) (suc u) (suc n) h = omega (arith, before_fits texts u n (le_of_suc-le-suc h))

-- the row after j others of the table after u others
from_at : (n m u j : ℕ) (tables : List Table) (y : Table) (texts : List (List ℕ)) (d : Entry) (z : Line)
    → n + u ≡ m → u < length tables → j < length (lines_of (text_at texts u))
    → get_or (entries_from n tables texts) (rows_before texts u + j) d ≡ entry (get_or tables u y) m (suc j) (get_or (lines_of (text_at texts u)) j z)
unfolding entries_from rows_before lines_of
from_at n m u j [] y texts d z e h k = absurd (not-suc-le-zero h)
from_at n m u j (table ∷ tables) y [] d z e h k = absurd (not-suc-le-zero k)
from_at n m zero j (table ∷ tables) y (text ∷ texts) d z e h k =
    let q : n ≡ m = omega arith in
    let p : 0 + j ≡ j = omega arith in
    rw (p, q)
    (get_or-append (entries_of table m 1 (lines_of text)) (entries_from (suc m) tables texts) d j (rw (length_entries table m 1 (lines_of text)) k)
    ∙ entries_at table m 1 j (suc j) (lines_of text) d z k (omega arith))
from_at n m (suc u) j (table ∷ tables) y (text ∷ texts) d z e h k =
    let q : length (entries_of table n 1 (lines_of text)) ≡ length (lines_of text) = length_entries table n 1 (lines_of text) in
    let p : length (lines_of text) + rows_before texts u + j ≡ length (entries_of table n 1 (lines_of text)) + (rows_before texts u + j) = omega arith in
    rw (p, get_or-append-add) (from_at (suc n) m u j tables y texts d z (omega arith) (le_of_suc-le-suc h) k)

module _ (texts : List (List ℕ)) (u r : ℕ) (is : IsRow texts u r) where
  -- a row's place is one of the places of rows
  pub place_there : place texts u r < length (all_rows texts)
  unfolding place
  place_there = omega (arith, length_rows texts, before_fits texts u table_count is.table)

  -- and there it stands
  pub row_at : (d : Entry) → get_or (all_rows texts) (place texts u r) d ≡ entry_at texts u r
  unfolding place entry_at all_rows
  row_at d = let q : suc (r - 1) ≡ r = omega arith in from_at 0 u u (r - 1) carried Ocp texts d no_line (omega arith) is.table (omega arith) ∙ rw q

  -- so it is one of all rows
  pub row_in : Memᴰ (entry_at texts u r) (all_rows texts)
  row_in = let e : Entry = entry_at texts u r in Memᴰ.cast (sym (row_at e)) (at_mem (all_rows texts) (place texts u r) e place_there)

-- Every row has a table and a number

-- each row of a table stands after j others
entries_in : (table : Table) (t row : ℕ) (lines : List Line) (z : Line) {e : Entry} → Memᴰ e (entries_of table t row lines)
    → (j : ℕ) × (j < length lines) × (e ≡ entry table t (row + j) (get_or lines j z))
unfolding entries_of
entries_in table t row [] z m = elim m [ ]
entries_in table t row (line ∷ lines) z {e} m = go (λ m'. entries_in table t (suc row) lines z m') (Memᴰ.cases_cons m)
  where
    go : (Memᴰ e (entries_of table t (suc row) lines) → (j : ℕ) × (j < length lines) × (e ≡ entry table t (suc row + j) (get_or lines j z)))
        → (e ≡ entry table t row line) ⊎ Memᴰ e (entries_of table t (suc row) lines)
        → (j : ℕ) × (j < suc (length lines)) × (e ≡ entry table t (row + j) (get_or (line ∷ lines) j z))
    go ih (inl q) = let p : row + 0 ≡ row = omega arith in (0, omega arith, rw p q)
    go ih (inr m') = let w = ih m' in let p : row + suc w.0 ≡ suc row + w.0 = omega arith in (suc w.0, omega (arith, w.1), rw p w.2)

-- e is the row after j others of the table after u others, of which the first has the number n
abbrev Found : ℕ → List Table → Table → List (List ℕ) → Line → Entry → Type 0
Found n tables y texts z e =
    (u : ℕ) × (j : ℕ) × (u < length tables) × (j < length (lines_of (text_at texts u)))
    × (e ≡ entry (get_or tables u y) (n + u) (suc j) (get_or (lines_of (text_at texts u)) j z))

-- each row of the tables is so found
from_in : (n : ℕ) (tables : List Table) (y : Table) (texts : List (List ℕ)) (z : Line) {e : Entry} → Memᴰ e (entries_from n tables texts)
    → Found n tables y texts z e
unfolding entries_from
from_in n [] y texts z m = elim m [ ]
from_in n (table ∷ tables) y [] z m = elim m [ ]
from_in n (table ∷ tables) y (text ∷ texts) z {e} m =
    go (λ m'. from_in (suc n) tables y texts z m') (Memᴰ.append_cases (entries_of table n 1 (lines_of text)) m)
  where
    go : (Memᴰ e (entries_from (suc n) tables texts) → Found (suc n) tables y texts z e)
        → Memᴰ e (entries_of table n 1 (lines_of text)) ⊎ Memᴰ e (entries_from (suc n) tables texts) → Found n (table ∷ tables) y (text ∷ texts) z e
    go ih (inl m') =
        let w = entries_in table n 1 (lines_of text) z m' in
        let p : n + 0 ≡ n = omega arith in
        let q : suc w.0 ≡ 1 + w.0 = omega arith in
        (0, w.0, omega arith, w.1, rw (p, q) w.2)
    go ih (inr m') =
        let w = ih m' in
        let p : n + suc w.0 ≡ suc n + w.0 = omega arith in
        (suc w.0, w.1, omega (arith, w.2), w.3, rw p w.4)

-- what is so found is the row of its table and number
row_made : (texts : List (List ℕ)) (u j : ℕ) (e : Entry) → u < table_count → j < length (lines_of (text_at texts u))
    → e ≡ entry (carried_at u) (0 + u) (suc j) (get_or (lines_of (text_at texts u)) j no_line)
    → IsRow texts e.table e.row × (e ≡ entry_at texts e.table e.row)
unfolding entry_at
row_made texts u j e h k q =
    let p : 0 + u ≡ u = omega arith in
    let s : suc j - 1 ≡ j = omega arith in
    rw (q, p) (record { table = h; above = omega arith; below = k }, rw s)

-- a row among all rows is the row of its table and number
pub row_of : (texts : List (List ℕ)) (e : Entry) → Memᴰ e (all_rows texts) → IsRow texts e.table e.row × (e ≡ entry_at texts e.table e.row)
unfolding all_rows
row_of texts e m = let w = from_in 0 carried Ocp texts no_line m in row_made texts w.0 w.1 e w.2 w.3 w.4

-- rows of one table and number are one row
pub twin_same : (texts : List (List ℕ)) (e o : Entry) → Memᴰ e (all_rows texts) → Memᴰ o (all_rows texts) → twin e o ≡ true → e ≡ o
unfolding twin
twin_same texts e o m m' t =
    let a : e.table ≡ o.table = eqb-true _ _ (and_left _ _ t) in
    let b : e.row ≡ o.row = eqb-true _ _ (and_right (eqb e.table o.table) _ t) in
    (row_of texts e m).1 ∙ rw (a, b) (sym (row_of texts o m').1)
