-- The search for a table that is too large, and the count of rows.
use mathlib.Core.Path.{◌≡◌, refl, sym, ap, ◌∙◌}
use Rattle.std.specs.Prelude.{Option, Some, None}
use mathlib.Core.List.{List, [], ◌∷◌}
use mathlib.Core.Bool.{Bool, true, false, cond}
use Prim.Native.Nat.{ℕ, zero, suc, ◌+◌, ◌-◌, ◌≤◌, ◌<◌}
use native.Mathlib.Omega.{arith}
use native.Mathlib.Numerals.{add-one}
use lib.Dec.{eqb, ltb}
use lib.ListN.{length, get_or, take, drop, drop_of_length-le, length-take, length-drop}
use lib.Seq.{drop-drop, take_all}
use borrow.Author.Tests.{ne_eqb, ltb-false}
use Rattle.laws.proofs.Cases.{cond_cases}
use Rattle.laws.proofs.Lists.{split}
use Rattle.lines.specs.Lines.{Line, line_feed, on_first, lead, lines_of, whole}
use Rattle.verdicts.specs.Answer.{first_table, too_long, too_many_rows, most_rows}
use Rattle.units.specs.declared.TableNumber.{TableNumber}
use Rattle.tables.specs.Sizes.{fit, refused_by, numbered, sizes_of, feeds}

-- a search over the tables, from table t on
module _ (test : List ℕ → Bool) (texts : List (List ℕ)) (t : ℕ) where
  pub table_none : length texts ≤ t → 0 ≡ first_table test (t + 1) (drop t texts)
  unfolding first_table
  table_none h = rw (drop_of_length-le texts h)

  pub table_here : t < length texts → test (get_or texts t []) ≡ true → t + 1 ≡ first_table test (t + 1) (drop t texts)
  unfolding first_table
  table_here h e = rw (split texts t [] h, e)

  pub table_more : t < length texts → test (get_or texts t []) ≡ false → first_table test (t + 1 + 1) (drop (t + 1) texts) ≡ first_table test (t + 1) (drop t texts)
  unfolding first_table
  table_more h e = rw (split texts t [] h, e, add-one (t + 1))

-- where the search finds nothing, the test holds of no table
pub table_all : (test : List ℕ → Bool) (k : ℕ) (texts : List (List ℕ)) (t : ℕ) → first_table test (suc k) texts ≡ 0 → t < length texts → test
    (get_or texts t []) ≡ false
unfolding first_table
table_all test k [] t e h = absurd (omega arith)
table_all test k (s ∷ texts) t e h = go (test s) refl e t h (λ z n l. table_all test (suc k) texts n z l)
  where
    go : (b : Bool) → test s ≡ b → cond b (suc k) (first_table test (suc (suc k)) texts) ≡ 0 → (n : ℕ) → n < suc (length texts)
        → (first_table test (suc (suc k)) texts ≡ 0 → (m : ℕ) → m < length texts → test (get_or texts m []) ≡ false) → test (get_or (s ∷ texts) n []) ≡ false
    go true p z n l ih = absurd (omega arith)
    go false p z zero l ih = p
    go false p z (suc n) l ih = ih z n (omega arith)

-- the place of a table that is too large is at most their number
pub table_le : (test : List ℕ → Bool) (k : ℕ) (texts : List (List ℕ)) → first_table test (suc k) texts ≤ k + length texts
unfolding first_table
table_le test k [] = omega arith
table_le test k (s ∷ texts) =
    cond_cases (λ (n : ℕ). n ≤ k + suc (length texts)) (test s) (λ _. omega arith) (λ _. omega (arith, table_le test (suc k) texts))

-- tables that aren't refused are small
module _ (texts : List (List ℕ)) (t : ℕ) (h : t < length texts) where
  pub short : too_long texts ≡ 0 → length (get_or texts t []) ≤ 65536
  unfolding too_long
  short e = ltb-false 65536 _ (table_all (λ text. ltb 65536 (length text)) 0 texts t e h)

  pub few : too_many_rows texts ≡ 0 → length (lines_of (get_or texts t [])) ≤ most_rows
  unfolding too_many_rows
  few e = ltb-false most_rows _ (table_all (λ text. ltb most_rows (length (lines_of text))) 0 texts t e h)

-- the place that a search found, as a table's number
pub found_number : (t : ℕ) {n : ℕ} → t + 1 ≡ n → Some (record { 0 = t + 1 }) ≡ numbered n
found_number t {n = zero} e = absurd (omega arith)
found_number t {n = suc n} e = rw e

number_is : (n : ℕ) {table : TableNumber} → numbered n ≡ Some table → n ≡ table.0 × eqb n 0 ≡ false
number_is zero e = cc
number_is (suc n) e = (ap (λ (x : Option TableNumber). number_or x) e, ne_eqb (suc n) 0 (λ z. omega arith))
  where
    number_or : Option TableNumber → ℕ
    number_or (Some t) = t.0
    number_or None = 0

no_number : (n : ℕ) → numbered n ≡ None → n ≡ 0
no_number zero e = refl
no_number (suc n) e = cc

-- refusals 1 and 2 by the searches
module _ (texts : List (List ℕ)) where
  pub sizes_long : {table : TableNumber} → numbered (too_long texts) ≡ Some table → refused_by 1 table.0 ≡ sizes_of texts
  unfolding sizes_of
  sizes_long e = let n = number_is (too_long texts) e in rw (← n.0, n.1)

  pub sizes_many : {table : TableNumber} → numbered (too_long texts) ≡ None → numbered (too_many_rows texts) ≡ Some table
      → refused_by 2 table.0 ≡ sizes_of texts
  unfolding sizes_of
  sizes_many z e = let n = number_is (too_many_rows texts) e in rw (no_number (too_long texts) z, ← n.0, n.1)

  pub sizes_fit : numbered (too_long texts) ≡ None → numbered (too_many_rows texts) ≡ None → fit ≡ sizes_of texts
  unfolding sizes_of
  sizes_fit z e = rw (no_number (too_long texts) z, no_number (too_many_rows texts) e)

-- Rows by their line feeds

pub feeds_next : (table : List ℕ) (i : ℕ) {n : ℕ} → i < length table → n ≡ cond (eqb (get_or table i 0) line_feed) 1 0
    → feeds (drop i table) ≡ n + feeds (drop (i + 1) table)
unfolding feeds
feeds_next table i h e = rw (split table i 0 h, e)

pub feeds_none : (table : List ℕ) (i : ℕ) → length table ≤ i → feeds (drop i table) ≡ 0
unfolding feeds
feeds_none table i h = rw (drop_of_length-le table h)

-- the first k bytes, and the others
feeds_split : (k : ℕ) (l : List ℕ) → feeds l ≡ feeds (take k l) + feeds (drop k l)
unfolding feeds
feeds_split zero l = omega arith
feeds_split (suc k) [] = refl
feeds_split (suc k) (b ∷ bs) = omega (arith, feeds_split k bs)

-- no more than there are bytes
feeds_few : (l : List ℕ) → feeds l ≤ length l
unfolding feeds
feeds_few [] = omega arith
feeds_few (b ∷ bs) = cond_cases (λ (n : ℕ). n + feeds bs ≤ suc (length bs)) (eqb b line_feed) (λ _. omega (arith, feeds_few bs))
    (λ _. omega (arith, feeds_few bs))

-- n line feeds are counted before place i
pub record Counted (table : List ℕ) (n i : ℕ) : Type 0 where
  pub within : i ≤ length table
  pub few : n ≤ i
  pub all : n + feeds (drop i table) ≡ feeds table

module _ (table : List ℕ) (n i : ℕ) (w : Counted table n i) {m : ℕ} where
  -- a block more
  pub count_block : (k : ℕ) → k ≤ length table - i → m ≡ feeds (take (i + k - i) (drop i table)) → Counted table (n + m) (i + k)
  count_block k h e =
      let s : i + k - i ≡ k = omega arith in
      let f : m ≡ feeds (take k (drop i table)) = rw s at e in
      let d : feeds (drop i table) ≡ feeds (take k (drop i table)) + feeds (drop (i + k) table) = rw (← drop-drop k i table) (feeds_split k (drop i table)) in
      let l : length (take k (drop i table)) ≤ k = simp length-take (omega arith) in
      record { within = omega (arith, w.within); few = omega (arith, w.few, f, l, feeds_few (take k (drop i table))); all = omega (arith, w.all, d, f) }

  -- the bytes left
  pub count_rest : m ≡ feeds (take (length table - i) (drop i table)) → n + m ≡ feeds table
  count_rest e =
      let f : m ≡ feeds (drop i table) = rw (take_all (length table - i) (drop i table) (simp length-drop (omega arith))) at e in
      omega (arith, w.all, f)

-- all are no more than there are bytes
pub all_few : (table : List ℕ) (n : ℕ) → n ≡ feeds table → n ≤ length table
all_few table n e = omega (arith, e, feeds_few table)

-- a byte in front of lines that are there makes none more, unless it is a line feed
front_length : (b c : ℕ) (ls : List Line) → length (lead b (lead c ls)) ≡ cond (eqb b line_feed) 1 0 + length (lead c ls)
unfolding lead on_first
front_length b c ls = go (eqb b line_feed) (eqb c line_feed) ls
  where
    go : (x y : Bool) (l : List Line)
        → length (cond x (record { bytes = []; ended = true } ∷ cond y (record { bytes = []; ended = true } ∷ l) (on_first c l))
        (on_first b (cond y (record { bytes = []; ended = true } ∷ l) (on_first c l))))
        ≡ cond x 1 0 + length (cond y (record { bytes = []; ended = true } ∷ l) (on_first c l))
    go true y l = omega arith
    go false true l = omega arith
    go false false [] = omega arith
    go false false (k ∷ l) = omega arith

-- 01: "A row is a line ended by LF"; "Bytes after the last LF are one row"
pub rows_by_feeds : (table : List ℕ) → length (lines_of table) ≡ feeds table + cond (whole table) 0 1
unfolding lines_of feeds whole lead on_first
rows_by_feeds [] = refl
rows_by_feeds (b ∷ []) = go (eqb b line_feed)
  where
    go : (x : Bool) → length {A = Line} (cond x (record { bytes = []; ended = true } ∷ [])
        (record { bytes = b ∷ []; ended = false } ∷ [])) ≡ cond x 1 0 + 0 + cond x 0 1
    go true = refl
    go false = refl
rows_by_feeds (b ∷ c ∷ bs) = omega (arith, front_length b c (lines_of bs), rows_by_feeds (c ∷ bs))

-- the last byte tells
pub last_tells : (table : List ℕ) (k : ℕ) → suc k ≡ length table → eqb (get_or table k 0) line_feed ≡ whole table
unfolding whole
last_tells [] k e = absurd (omega arith)
last_tells (b ∷ []) zero e = refl
last_tells (b ∷ []) (suc k) e = absurd (omega arith)
last_tells (b ∷ c ∷ bs) zero e = absurd (omega arith)
last_tells (b ∷ c ∷ bs) (suc k) e = last_tells (c ∷ bs) k (omega arith)

pub whole_none : (table : List ℕ) → length table ≡ 0 → true ≡ whole table
unfolding whole
whole_none [] h = refl
whole_none (b ∷ bs) h = absurd (omega arith)

module _ (table : List ℕ) {n : ℕ} (e : n ≡ feeds table) where
  pub rows_whole : whole table ≡ true → n ≡ length (lines_of table)
  rows_whole t = sym (rows_by_feeds table ∙ rw (t, ← e) (omega arith))

  pub rows_open : whole table ≡ false → n + 1 ≡ length (lines_of table)
  rows_open f = sym (rows_by_feeds table ∙ rw (f, ← e) refl)
