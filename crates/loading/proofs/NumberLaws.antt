-- A row's number, counted from the tables of the rows before it, is its place in its table.
use mathlib.Core.Path.{◌≡◌, ap}
use mathlib.Core.List.{List}
use Prim.Native.Nat.{ℕ, zero, suc, ◌+◌, ◌-◌, ◌≤◌, ◌<◌}
use native.Mathlib.Omega.{arith}
use lib.Dec.{eqb, ltb}
use borrow.Author.Tests.{eqb-true, eqb-false, ltb-true, ltb-false}
use Rattle.laws.proofs.Cases.{bool_cases}
use Rattle.arrays.specs.Room.{most_places}
use Rattle.verdicts.specs.Places.{rows_before}
use Rattle.verdicts.proofs.EntryLaws.{rows_before_next}
use Rattle.kept.specs.Stored.{at, kept_table_column}
use Rattle.kept.specs.FirstPass.{Situations}
use Rattle.judged.specs.Passes.{column_of}
use Rattle.judged.proofs.Held.{column_at_lem}
use Rattle.index_columns.specs.Columns.{following, row_number_at}

module _ (texts : List (List ℕ)) where
  -- more tables have more rows
  more_before : (t d : ℕ) → rows_before texts t ≤ rows_before texts (t + d)
  more_before t zero =
      let e : t + 0 ≡ t = omega arith in
      rw e (omega arith)
  more_before t (suc d) =
      let e : t + suc d ≡ suc (t + d) = omega arith in
      rw e (omega (arith, rows_before_next texts (t + d), more_before t d))

  earlier : (t u : ℕ) → t < u → rows_before texts (suc t) ≤ rows_before texts u
  earlier t u h =
      let e : suc t + (u - suc t) ≡ u = omega arith in
      rw e at (more_before (suc t) (u - suc t))

  -- row i is of table t, and the row after it of table u
  module _ (t u i : ℕ) (low : rows_before texts t ≤ i) (high : i < rows_before texts (suc t))
      (low' : rows_before texts u ≤ suc i) (high' : suc i < rows_before texts (suc u)) where
    next_is : following (suc (i - rows_before texts t)) t u ≡ suc (suc i - rows_before texts u)
    unfolding following
    next_is =
        bool_cases (eqb t u)
        (λ q. rw q (same (eqb-true t u q)))
        (λ q. rw q (other (eqb-false t u q)))
      where
        same : t ≡ u → suc (suc (i - rows_before texts t)) ≡ suc (suc i - rows_before texts u)
        same e = omega (arith, ap (rows_before texts) e)

        other : (t ≡ u → ⊥) → 1 ≡ suc (suc i - rows_before texts u)
        other ne =
            bool_cases (ltb t u)
            (λ q. omega (arith, earlier t u (ltb-true t u q)))
            (λ q. absurd (omega (arith, earlier u t (omega (arith, ltb-false t u q, ne)))))

module _ (texts : List (List ℕ)) (halves bytes : List ℕ) (n : ℕ) (few : n ≤ most_places) (w : Situations texts halves bytes n) where
  abbrev tables : List ℕ
  tables = column_of bytes kept_table_column

  abbrev table_at : ℕ → ℕ
  table_at i = at bytes kept_table_column i

  pub number_is : (i : ℕ) → i < n → row_number_at tables i ≡ suc (i - rows_before texts (table_at i))
  unfolding row_number_at
  number_is zero h = omega (arith, (w 0 h).low)
  number_is (suc i) h =
      let p : i < n = omega arith in
      rw (number_is i p, column_at_lem bytes kept_table_column i (omega arith), column_at_lem bytes kept_table_column (suc i) (omega arith))
      (next_is texts (table_at i) (table_at (suc i)) i (w i p).low (w i p).high (w (suc i) h).low (w (suc i) h).high)
