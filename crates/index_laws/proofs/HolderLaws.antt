-- A good VALID Y pid row by its number and by its five numbers is one row.
use mathlib.Core.Path.{◌≡◌, refl, ap, sym, ◌∙◌}
use mathlib.Core.Bool.{Bool, true, false, ◌&&◌}
use mathlib.Core.List.Memᴰ
use mathlib.Core.List.{List, [], ◌∷◌, Memᴰ}
use mathlib.Core.Option.{Option, some}
use Prim.Native.Nat.{ℕ, ◌-◌, ◌≤◌, ◌<◌}
use native.Mathlib.Omega.{arith}
use lib.Dec.{eqb, ltb}
use lib.ListN.{length, get_or-eq_default}
use borrow.Author.Tests.{eq-eqb, eqb-true, ltb-true, ltb-false}
use Rattle.laws.proofs.Cases.{bool_cases, cond_cases, and_left, and_right, and_both, false≢true}
use Rattle.laws.proofs.Tests.{keep_mem}
use Rattle.lines.specs.Lines.{lines_of}
use Rattle.decoding.specs.Records.{pid_row}
use Rattle.verdicts.specs.Key.{Key}
use Rattle.verdicts.specs.Entries.{Entry, carried}
use Rattle.verdicts.specs.Steps.{holds}
use Rattle.verdicts.specs.Places.{text_at, entry_at}
use Rattle.verdicts.specs.Answer.{most_rows, too_many_rows}
use Rattle.verdicts.proofs.SoundLaws as sound
use Rattle.tables.proofs.SizeLaws.{few}
use Rattle.key_symbols.specs.declared.FiveNumbers.{FiveNumbers}
use Rattle.key_symbols.specs.Bounded.{packet_of}
use Rattle.database.specs.Rows.{Row}
use Rattle.database.specs.Packets.{pid_table, numbers_in, is_yes, is_packet_row}
use Rattle.database.specs.GoodRows.{rows_in, is_good, good_rows, holds_key, find, among, of_tables}
use Rattle.database.proofs.RowLaws.{found_passes, in_tables}
use Rattle.database.proofs.OwnerLaws.{packet_holds, holds_packet}
use Rattle.at_verdicts.proofs.GoodRows.{entry_of, good_row}
use Rattle.at_verdicts.proofs.DistinctRows.{Same, Distinct, nothing, more, good_distinct}

-- the only row that passes is found
find_only : (f : Row → Bool) (l : List Row) (row : Row) → Memᴰ row l → f row ≡ true → ((b : Row) → Memᴰ b l → f b ≡ true → b ≡ row)
    → find f l ≡ some row
unfolding find
find_only f [] row m t only = absurd (Memᴰ.not-nil m)
find_only f (x ∷ l) row m t only =
    cond_cases (λ (o : Option Row). o ≡ some row) (f x) (λ e. ap some (only x (Memᴰ.head refl) e))
    (λ e. find_only f l row (later m e) t (λ b i. only b (Memᴰ.tail i)))
  where
    later : Memᴰ row (x ∷ l) → f x ≡ false → Memᴰ row l
    later (Memᴰ.head q) e = absurd (false≢true (sym e ∙ ap f (sym q) ∙ t))
    later (Memᴰ.tail i) e = i

same_row : (l : List Row) → Distinct l → (a b : Row) → Memᴰ a l → Memᴰ b l → Same a b → a ≡ b
same_row [] nothing a b i j s = absurd (Memᴰ.not-nil i)
same_row (x ∷ l) (more h d) a b (Memᴰ.head p) (Memᴰ.head q) s = p ∙ sym q
same_row (x ∷ l) (more h d) a b (Memᴰ.head p) (Memᴰ.tail j) s =
    absurd (h b j (ap (λ (row : Row). row.table) (sym p) ∙ s.0, ap (λ (row : Row). row.number) (sym p) ∙ s.1))
same_row (x ∷ l) (more h d) a b (Memᴰ.tail i) (Memᴰ.head q) s =
    absurd (h a i (ap (λ (row : Row). row.table) (sym q) ∙ sym s.0, ap (λ (row : Row). row.number) (sym q) ∙ sym s.1))
same_row (x ∷ l) (more h d) a b (Memᴰ.tail i) (Memᴰ.tail j) s = same_row l d a b i j s

module _ (texts : List (List ℕ)) where
  -- its entry holds the key too
  entry_holds : (k : Key) (row : Row) → Memᴰ row (good_rows texts) → holds_key k row ≡ true → holds (entry_of texts row) k ≡ true
  unfolding holds_key holds
  entry_holds k row m e = rw (good_row texts row m).says e

  -- 01's reason 9: of the good rows only one holds a key
  one_good : (k : Key) (a b : Row) → Memᴰ a (good_rows texts) → Memᴰ b (good_rows texts) → holds_key k a ≡ true → holds_key k b ≡ true → a ≡ b
  unfolding entry_at
  one_good k a b i j p q =
      let e = sound.one_holder texts (entry_of texts a) (entry_of texts b) k (good_row texts a i).there (good_row texts b j).there
      (good_row texts a i).good.is_sound (entry_holds k a i p) (entry_holds k b j q) in
      same_row (good_rows texts) (good_distinct texts) a b i j (ap (λ (o : Entry). o.table) e, ap (λ (o : Entry). o.row) e)

  -- what is known of the row of a number
  pub record Numbered (r : ℕ) (row : Row) : Type 0 where
    pub good : Memᴰ row (good_rows texts)
    pub table : row.table ≡ pid_table
    pub number : row.number ≡ r
    pub valid : is_yes (pid_row row.bytes).valid ≡ true

  pub numbered_tells : (number : ℕ) (row : Row) → (of_tables texts).numbered number ≡ some row → Numbered number row
  unfolding of_tables among is_packet_row
  numbered_tells number row e =
      let f = found_passes (is_packet_row number) (good_rows texts) row e in
      let r = and_right (eqb row.table pid_table) _ f.1 in
      record {
        good = f.0;
        table = eqb-true _ _ (and_left _ (eqb row.number number && is_yes (pid_row row.bytes).valid) f.1);
        number = eqb-true _ _ (and_left _ (is_yes (pid_row row.bytes).valid) r);
        valid = and_right (eqb row.number number) _ r;
      }

  -- and such a row is it
  tells_numbered : (number : ℕ) (row : Row) → Numbered number row → (of_tables texts).numbered number ≡ some row
  unfolding of_tables among is_packet_row
  tells_numbered number row n =
      find_only (is_packet_row number) (good_rows texts) row n.good
      (and_both (eq-eqb _ _ n.table) (and_both (eq-eqb _ _ n.number) n.valid))
      (λ b m e. same_row (good_rows texts) (good_distinct texts) b row m n.good (
        eqb-true _ _ (and_left _ (eqb b.number number && is_yes (pid_row b.bytes).valid) e) ∙ sym n.table,
        eqb-true _ _ (and_left _ (is_yes (pid_row b.bytes).valid) (and_right (eqb b.table pid_table) _ e)) ∙ sym n.number,
      ))

  -- the row of a number is the one that its five numbers choose
  pub numbered_held : (number : ℕ) (row : Row) → (of_tables texts).numbered number ≡ some row → (of_tables texts).holder (packet_of (numbers_in row)) ≡ some row
  unfolding of_tables among
  numbered_held number row e =
      let n = numbered_tells number row e in
      let h = packet_holds row n.table ∙ n.valid in
      find_only (holds_key (packet_of (numbers_in row))) (good_rows texts) row n.good h (λ b m t. one_good (packet_of (numbers_in row)) b row m n.good t h)

  -- the row that five numbers choose is that of its number, which is from 1 to 1,024
  pub held_numbered : (n : FiveNumbers) (row : Row) → (of_tables texts).holder (packet_of n) ≡ some row
      → ((of_tables texts).numbered row.number ≡ some row) × (numbers_in row ≡ n)
  unfolding of_tables among
  held_numbered n row e =
      let f = found_passes (holds_key (packet_of n)) (good_rows texts) row e in
      let w = holds_packet n row f.1 in
      (tells_numbered row.number row (record { good = f.0; table = w.0; number = refl; valid = w.1 }), w.2)

  pub number_within : too_many_rows texts ≡ 0 → (row : Row) → Memᴰ row (good_rows texts) → (0 < row.number) × (row.number ≤ most_rows)
  unfolding good_rows rows_in lines_of
  number_within e row m =
      let w = in_tables 0 carried texts row (keep_mem (is_good texts) (rows_in texts) m).0 in
      let z : row.table - 0 ≡ row.table = omega arith in
      let h : row.number ≤ length (lines_of (text_at texts row.table)) = rw z at w.3 in (
        w.2,
        bool_cases (ltb row.table (length texts))
            (λ t. omega (arith, few texts row.table (ltb-true _ _ t) e))
            (λ t. absurd (omega (arith, w.2, past row.table (ltb-false _ _ t) h))),
      )
    where
      past : (t : ℕ) → length texts ≤ t → row.number ≤ length (lines_of (text_at texts t)) → row.number ≤ 0
      past t l h = rw (get_or-eq_default texts [] {n = t} l) at h
