-- A row of the tables is good where its cell is 0, and then its columns say what its entry does.
use mathlib.Core.Path.{◌≡◌, ap, sym, ◌∙◌}
use mathlib.Core.Bool.{Bool, true, false, ◌&&◌}
use mathlib.Core.List.{List}
use Prim.Native.Nat.{ℕ, suc, ◌+◌, ◌-◌, ◌<◌}
use native.Mathlib.Omega.{arith}
use lib.Dec.{eqb}
use lib.ListN.{length, get_or}
use borrow.Author.Tests.{eqb-true, eq-eqb, not-true}
use Rattle.laws.specs.Lists.{any}
use Rattle.laws.proofs.Cases.{bool_cases, and_left, and_right}
use Rattle.laws.proofs.Lists.{map_at}
use Rattle.lines.specs.Lines.{Line}
use Rattle.schemas.specs.declared.Table.{Table}
use Rattle.formed.specs.Formed.{formed}
use Rattle.verdicts.specs.Key.{Key, same_key}
use Rattle.verdicts.specs.Facts.{Facts, facts_of}
use Rattle.verdicts.specs.Entries.{Entry, reading_of, own, facts_in, facts, all_rows, carried_at}
use Rattle.verdicts.specs.Verdicts.{shared, sound, verdict, verdicts}
use Rattle.verdicts.specs.Places.{text_at, rows_before, place}
use Rattle.verdicts.proofs.EntryLaws.{own_reading}
use Rattle.verdicts.proofs.CellLaws.{cell_at}
use Rattle.verdicts.proofs.GoodLaw.{good_law}
use Rattle.meaning.specs.Kept.{no_entry, kept_entry}
use Rattle.kept.specs.FirstPass.{table_line, Situated}
use Rattle.kept.proofs.SituationLaws.{line_below, line_there, row_again}
use Rattle.database.specs.GoodRows.{is_good, table_of}
use Rattle.loading.proofs.RowLaws.{row_in, row_there}

-- a line with no reason of 1 to 8 says what its columns do
said_fine : (table : Table) (line : Line) → own (reading_of table line) ≡ 0 → facts_in (reading_of table line) ≡ facts_of table line.bytes
unfolding reading_of
said_fine table line e = let z : formed table line ≡ 0 = sym (own_reading table line) ∙ e in rw (eq-eqb (formed table line) 0 z)

-- row i, from 0, has verdict 0
abbrev pub good_at : List (List ℕ) → ℕ → Bool
good_at texts i = eqb (get_or (verdicts texts) i 0) 0

-- which is that of its entry
module _ (texts : List (List ℕ)) (i : ℕ) (below : i < length (all_rows texts)) (g : good_at texts i ≡ true) where
  abbrev e : Entry
  e = kept_entry (all_rows texts) i

  good_verdict : verdict (all_rows texts) e ≡ 0
  unfolding verdicts
  good_verdict = sym (map_at (verdict (all_rows texts)) (all_rows texts) i no_entry 0 below) ∙ eqb-true _ 0 g

  -- it has none of reasons 1 to 9
  pub good_own : own e.reading ≡ 0
  unfolding sound
  good_own = eqb-true _ _ (and_left _ _ ((good_law (all_rows texts) e).0 good_verdict).is_sound)

  pub good_alone : shared (all_rows texts) e ≡ false
  unfolding sound
  good_alone = not-true (shared (all_rows texts) e) (and_right (eqb (own e.reading) 0) _ ((good_law (all_rows texts) e).0 good_verdict).is_sound)

module _ {texts : List (List ℕ)} {t start i : ℕ} (w : Situated texts t start i) (below : i < length (all_rows texts)) where
  abbrev j : ℕ
  j = i - rows_before texts t

  pub good_is : is_good texts (row_in texts i) ≡ good_at texts i
  unfolding is_good place
  good_is =
      let z : rows_before texts t + (suc j - 1) ≡ i = omega (arith, w.low) in
      let c = cell_at texts t (suc j) (record { table = w.below; above = omega arith; below = line_below texts t start i w }) in
      rw (row_there w) (ap (λ (v : ℕ). eqb v 0) (sym (rw z at c)))

  -- where its verdict is 0, its columns say what its entry does
  pub said_same : good_at texts i ≡ true → facts (kept_entry (all_rows texts) i) ≡ facts_of (table_of (row_in texts i)) (row_in texts i).bytes
  said_same g =
      let a = row_again texts t start i w no_entry in
      let o : own (reading_of (carried_at t) (table_line (text_at texts t) j)) ≡ 0 =
      ap (λ (e : Entry). own e.reading) (sym a) ∙ good_own texts i below g in
      ap (λ (e : Entry). facts e) a ∙ said_fine _ _ o ∙ rw (row_there w, ← line_there w)

  -- so that to be good and have a key is the same by the row and by its entry
  pub has_same : (k : Key) (part : Facts → List Key)
      → (is_good texts (row_in texts i) && any (same_key k) (part (facts_of (table_of (row_in texts i)) (row_in texts i).bytes)))
      ≡ (good_at texts i && any (same_key k) (part (facts (kept_entry (all_rows texts) i))))
  has_same k part = rw good_is (bool_cases (good_at texts i) (λ g. rw (said_same g)) (λ g. rw g))
