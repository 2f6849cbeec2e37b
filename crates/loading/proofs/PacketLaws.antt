-- The row that the columns give for a number is the good VALID Y pid row of that number.
use mathlib.Core.Path.{◌≡◌, refl, ap, sym, ◌∙◌}
use mathlib.Core.Bool.{Bool, true, false, cond, ◌&&◌}
use mathlib.Core.List.{List}
use mathlib.Core.Option.{none, some}
use Prim.Native.Nat.{ℕ, zero, suc, ◌-◌, ◌<◌}
use native.Mathlib.Omega.{arith}
use lib.Dec.{eqb}
use lib.ListN.{length}
use borrow.Author.Tests.{eq-eqb, ne_eqb, eqb-true}
use Rattle.laws.specs.Lists.{keep}
use Rattle.laws.proofs.At.{keep_none, keep_one}
use Rattle.laws.proofs.Cases.{and_left, and_right, and_both, false_of, false≢true}
use Rattle.decoding.specs.Records.{pid_row}
use Rattle.verdicts.specs.Key.{Key}
use Rattle.verdicts.specs.Entries.{all_rows}
use Rattle.verdicts.specs.Places.{rows_before}
use Rattle.key_symbols.specs.Bounded.{packet_of}
use Rattle.kept.specs.Stored as kept
use Rattle.kept.specs.Stored.{at}
use Rattle.database.specs.Rows.{Row}
use Rattle.database.specs.Packets.{pid_table, numbers_in, is_yes, is_packet_row}
use Rattle.database.specs.Arrays.{database, holder_column, row_at, keyed_by, packet_at}
use Rattle.database.specs.GoodRows.{rows_in, is_good, good_rows, holds_key, find}
use Rattle.database.proofs.OwnerLaws.{packet_holds, holds_packet}
use Rattle.loading.proofs.RowLaws.{no_row, row_in, row_there, length_rows_in}
use Rattle.loading.proofs.HolderLaws.{first_of, find_good, hit, only, held}
use Rattle.loading.proofs.IndexedRows.{IndexedRows, row_is, row_holds}

module _ {texts : List (List ℕ)} {words links : List ℕ} {count : ℕ} {halves bytes cells columns : List ℕ}
    (r : IndexedRows texts words links count halves bytes cells columns) (number : ℕ) where
  abbrev n : ℕ
  n = length (all_rows texts)

  abbrev passes : Row → Bool
  passes row = is_good texts row && is_packet_row number row

  -- pid comes first: row i of the tables is its row i + 1
  place_of : (i : ℕ) → i < n → is_packet_row number (row_in texts i) ≡ true → suc i ≡ number
  unfolding is_packet_row rows_before
  place_of i p e =
      let t : ℕ = at bytes kept.kept_table_column i in
      let there = row_there (r.situated i p) in
      let a : t ≡ 0 = sym (ap (λ (row : Row). row.table) there) ∙ eqb-true (row_in texts i).table pid_table (and_left _ _ e) in
      let b : (row_in texts i).number ≡ number = eqb-true _ _ (and_left _ _ (and_right (eqb (row_in texts i).table pid_table) _ e)) in
      let c : suc (i - rows_before texts t) ≡ number = sym (ap (λ (row : Row). row.number) there) ∙ b in
      let d : suc (i - 0) ≡ number = rw a at c in
      omega arith

  -- the key of the numbers of row j
  abbrev key : ℕ → Key
  key j = packet_of (numbers_in (row_in texts j))

  abbrev found : ℕ → ℕ
  found j = keyed_by words links columns holder_column (key j)

  -- such a row is given for its numbers
  given : (j : ℕ) → j < n → passes (row_in texts j) ≡ true → found j ≡ suc j
  unfolding is_packet_row
  given j p e =
      let g : is_good texts (row_in texts j) ≡ true = and_left _ _ e in
      let k = and_right (is_good texts (row_in texts j)) _ e in
      let t : (row_in texts j).table ≡ pid_table = eqb-true _ _ (and_left _ _ k) in
      let l = and_right (eqb (row_in texts j).table pid_table) _ k in
      let y : is_yes (pid_row (row_in texts j).bytes).valid ≡ true = and_right (eqb (row_in texts j).number number) _ l in
      let h : held r (key j) j ≡ true = sym (row_holds r j p (key j)) ∙ and_both g (packet_holds (row_in texts j) t ∙ y) in
      at_it (found j) refl h
    where
      at_it : (m : ℕ) → found j ≡ m → held r (key j) j ≡ true → m ≡ suc j
      at_it zero z h = absurd (false≢true (sym ((hit r (key j)).none z j p) ∙ h))
      at_it (suc i) z h =
          let s = (hit r (key j)).some i (z ∙ omega arith) in
          ap suc (only r (key j) i j s.0 p s.1 h)

  -- a row that is given for its numbers is such a row
  taken : (j : ℕ) → suc j ≡ number → eqb (row_at texts columns j).number number ≡ true
      → eqb (keyed_by words links columns holder_column (packet_of (numbers_in (row_at texts columns j)))) number ≡ true
      → (j < n) × (passes (row_in texts j) ≡ true)
  unfolding is_packet_row
  taken j e a b =
      let k : Key = packet_of (numbers_in (row_at texts columns j)) in
      let s = (hit r k).some j (eqb-true _ _ b ∙ sym e ∙ omega arith) in
      let same = row_is r j s.0 in
      let h = row_holds r j s.0 k ∙ s.1 in
      let w = holds_packet (numbers_in (row_at texts columns j)) (row_in texts j) (and_right (is_good texts (row_in texts j)) _ h) in
      let good : is_good texts (row_in texts j) ≡ true = and_left _ (holds_key k (row_in texts j)) h in
      (s.0, and_both good (and_both (eq-eqb _ _ w.0) (and_both (rw same at a) w.1)))

  has_number_lem : (i : ℕ) → passes (row_in texts i) ≡ true → eqb (row_in texts i).number number ≡ true
  unfolding is_packet_row
  has_number_lem i s = and_left _ _ (and_right (eqb (row_in texts i).table pid_table) _ (and_right (is_good texts (row_in texts i)) _ s))

  none_is : ((i : ℕ) → i < n → passes (row_in texts i) ≡ true → ⊥) → none ≡ first_of (keep passes (rows_in texts))
  none_is z =
      rw (keep_none no_row passes (rows_in texts) (λ i p. false_of (passes (row_in texts i)) (z i (omega (arith, length_rows_in texts)))))

  the_place : (i j : ℕ) → suc j ≡ number → i < n → passes (row_in texts i) ≡ true → i ≡ j
  the_place i j e l s = omega (arith, e, place_of i l (and_right (is_good texts (row_in texts i)) _ s))

  by_tests : (j : ℕ) → suc j ≡ number → (a b : Bool) → eqb (row_at texts columns j).number number ≡ a
      → eqb (keyed_by words links columns holder_column (packet_of (numbers_in (row_at texts columns j)))) number ≡ b
      → cond (a && b) (some (row_at texts columns j)) none ≡ first_of (keep passes (rows_in texts))
  by_tests j e true true p q =
      let t = taken j e p q in
      rw (
        row_is r j t.0,
        keep_one no_row passes (rows_in texts) j (omega (arith, length_rows_in texts, t.0)) t.1
            (λ i l s. the_place i j e (omega (arith, length_rows_in texts)) s),
      )
  by_tests j e true false p q =
      none_is (λ i l s. let same = the_place i j e l s in
      false≢true (sym q ∙ rw (← same, row_is r i l) (eq-eqb _ _ (given i l s ∙ omega (arith, e)))))
  by_tests j e false b p q =
      none_is (λ i l s. let same = the_place i j e l s in
      false≢true (sym p ∙ rw (← same, row_is r i l) (has_number_lem i s)))

  -- THE LAW OF NUMBERS
  pub packet_is : packet_at (database texts words links columns) number ≡ find (is_packet_row number) (good_rows texts)
  unfolding packet_at
  packet_is = by number refl ∙ sym (find_good texts (is_packet_row number))
    where
      by : (m : ℕ) → m ≡ number → packet_at (database texts words links columns) m ≡ first_of (keep passes (rows_in texts))
      by zero e = none_is (λ i l s. omega (arith, e, place_of i l (and_right (is_good texts (row_in texts i)) _ s)))
      by (suc j) e =
          let z : suc j - 1 ≡ j = omega arith in
          rw (ne_eqb (suc j) 0 (λ q. omega arith), z, e) (by_tests j e _ _ refl refl)
