-- The cells and positions that import writes: how many, which is whose, and how many cells are 0.
use mathlib.Core.Path.{◌≡◌, refl, ap, ◌∙◌}
use mathlib.Core.Bool.{Bool, true, false, cond}
use mathlib.Core.List.{List, ◌++◌}
use Prim.Native.Nat.{ℕ, ◌≤◌}
use lib.Dec.{eqb, ltb}
use lib.ListN.{length, get_or, drop, length-map, get_or-append}
use borrow.Author.Tests.{ltb-false}
use Rattle.laws.specs.Lists.{keep}
use Rattle.laws.proofs.Lists.{map_at}
use Rattle.laws.proofs.Tests.{keep_length, keep_map}
use Rattle.verdicts.specs.Entries.{Entry, all_rows}
use Rattle.verdicts.specs.Verdicts.{verdict, verdicts}
use Rattle.verdicts.specs.Places.{IsRow, entry_at, verdict_at, place}
use Rattle.verdicts.specs.Positions.{position_told, positions}
use Rattle.verdicts.specs.Answer.{refused, taken, too_long, too_many_rows, zeros, import_of, cells_after, positions_after}
use Rattle.verdicts.specs.Imports.{Lent, room_of, Takes, imported}
use Rattle.verdicts.proofs.EntryLaws.{place_there, row_at}

-- one cell per row
pub length_cells : (texts : List (List ℕ)) → length (verdicts texts) ≡ length (all_rows texts)
unfolding verdicts
length_cells texts = length-map (all_rows texts) (verdict (all_rows texts))

-- the cell at a row's place is the row's verdict
pub cell_at : (texts : List (List ℕ)) (u r : ℕ) → IsRow texts u r → get_or (verdicts texts) (place texts u r) 0 ≡ verdict_at texts u r
unfolding verdicts verdict_at
cell_at texts u r is =
    map_at (verdict (all_rows texts)) (all_rows texts) (place texts u r) (entry_at texts u r) 0 (place_there texts u r is)
    ∙ ap (verdict (all_rows texts)) (row_at texts u r is (entry_at texts u r))

-- and one position
pub length_positions : (texts : List (List ℕ)) → length (positions texts) ≡ length (all_rows texts)
unfolding positions
length_positions texts = length-map (all_rows texts) (λ e. position_told texts e.table e.row)

pub position_at : (texts : List (List ℕ)) (u r : ℕ) → IsRow texts u r → get_or (positions texts) (place texts u r) 0 ≡ position_told texts u r
unfolding positions entry_at
position_at texts u r is =
    let f : Entry → ℕ = λ e. position_told texts e.table e.row in
    map_at f (all_rows texts) (place texts u r) (entry_at texts u r) 0 (place_there texts u r is) ∙ ap f (row_at texts u r is (entry_at texts u r))

-- no more zeros than cells
pub zeros_fit : (cells : List ℕ) → zeros cells ≤ length cells
unfolding zeros
zeros_fit cells = keep_length (λ cell. eqb cell 0) cells

-- the zeros among the verdicts are the good rows: see `good_law`
pub zeros_good : (texts : List (List ℕ)) → zeros (verdicts texts) ≡ length (keep (λ e. eqb (verdict (all_rows texts) e) 0) (all_rows texts))
unfolding zeros verdicts
zeros_good texts =
    let v : Entry → ℕ = verdict (all_rows texts) in
    ap length (keep_map v (λ cell. eqb cell 0) (all_rows texts)) ∙ length-map (keep (λ e. eqb (v e) 0) (all_rows texts)) v

-- Where import takes the tables

-- it was lent room for all rows, and answers the counts of rows and of good rows
pub record Counts (texts : List (List ℕ)) (room rows good : ℕ) : Type 0 where
  pub fits : length (all_rows texts) ≤ room
  pub all : rows ≡ length (all_rows texts)
  pub zero : good ≡ zeros (verdicts texts)

-- the answer of an import by its three tests
by_tests : (a b c : Bool) (p q k z n g : ℕ) → cond a (cond b (cond c (refused 3 0) (taken k z)) (refused 2 p)) (refused 1 q) ≡ taken n g
    → (c ≡ false) × (n ≡ k) × (g ≡ z)
by_tests true true true p q k z n g e = (cc, cc, cc)
by_tests true true false p q k z n g e = (refl, cc, cc)
by_tests true false c p q k z n g e = (cc, cc, cc)
by_tests false b c p q k z n g e = (cc, cc, cc)

-- an answer that is no refusal says these counts
pub taken_counts : (texts : List (List ℕ)) (room rows good : ℕ) → import_of texts room ≡ taken rows good → Counts texts room rows good
unfolding import_of
taken_counts texts room rows good e =
    let w =
    by_tests (eqb (too_long texts) 0) (eqb (too_many_rows texts) 0) (ltb room (length (all_rows texts))) (too_many_rows texts) (too_long texts)
    (length (all_rows texts)) (zeros (verdicts texts)) rows good e
    in
    record { fits = ltb-false _ _ w.0; all = w.1; zero = w.2 }

-- it writes the verdicts to the front of the cells, and the positions to the front of theirs
module _ (texts : List (List ℕ)) (lent : Lent) (t : Takes texts lent) where
  all_rows_lem : t.rows ≡ length (all_rows texts)
  all_rows_lem = (taken_counts texts (room_of lent) t.rows t.good t.answer).all

  pub imported_cells : (imported texts lent).cells ≡ verdicts texts ++ drop (length (all_rows texts)) lent.cells
  unfolding cells_after
  imported_cells = rw (t.answer, all_rows_lem)

  pub imported_positions : (imported texts lent).positions ≡ positions texts ++ drop (length (all_rows texts)) lent.positions
  unfolding positions_after
  imported_positions = rw (t.answer, all_rows_lem)

  module _ (u r : ℕ) (is : IsRow texts u r) where
    -- what stands at a row's place in a list with one number for each row and more behind them
    at_place : (xs ys : List ℕ) → length xs ≡ length (all_rows texts) → get_or (xs ++ ys) (place texts u r) 0 ≡ get_or xs (place texts u r) 0
    at_place xs ys e = get_or-append xs ys 0 (place texts u r) (rw e (place_there texts u r is))

    -- so that the cell at a row's place is the row's verdict
    pub imported_at : get_or (imported texts lent).cells (place texts u r) 0 ≡ verdict_at texts u r
    imported_at = rw imported_cells (at_place (verdicts texts) _ (length_cells texts) ∙ cell_at texts u r is)

    -- and the position there the row's
    pub imported_position : get_or (imported texts lent).positions (place texts u r) 0 ≡ position_told texts u r
    imported_position = rw imported_positions (at_place (positions texts) _ (length_positions texts) ∙ position_at texts u r is)
