-- DEMAND 3: a bad row costs only the rows that lean on it.
--
-- For all tables, any line of any table that a line feed ends, and any new bytes without a line feed in its place
-- (`Edit`): every other row from which the line is reached by no steps, neither in the old tables nor in the new
-- (`Apart`), keeps its verdict and its position. So say `verdict_kept` and `position_kept_lem`, the latter of every other
-- row. And where import takes the
-- old tables and the new (`Takes`), whatever the buffers it is lent, the row has its cell and its position at the same
-- place in both, and they hold the same. So says `demand_3`, of the very cells and positions that import writes.
use mathlib.Core.Path.{◌≡◌, sym, ap, ◌∙◌}
use mathlib.Core.List.{List}
use Prim.Native.Nat.{ℕ}
use Rattle.verdicts.specs.Entries.{carried_at, all_rows}
use Rattle.verdicts.specs.Verdicts.{verdict}
use Rattle.verdicts.specs.Places.{IsRow, entry_at, verdict_at, Edit, line_number, edited, Apart}
use Rattle.verdicts.specs.Positions.{row_position, position_told}
use Rattle.verdicts.specs.Answer.{Imported, room_in, import_of, cells_after, positions_after}
use Rattle.verdicts.specs.Imports.{Lent, Takes, imported, SameCell}
use Rattle.verdicts.proofs.EntryLaws.{place_there}
use Rattle.verdicts.proofs.CellLaws.{length_cells, imported_at, imported_position}
use Rattle.verdicts.proofs.EditLaws.{rows_alike, row_kept, place_kept, line_kept, other_kept}
use Rattle.verdicts.proofs.Isolation.{verdict_same}

-- of the verdicts
pub verdict_kept : (texts : List (List ℕ)) (edit : Edit texts) (u r : ℕ) → IsRow texts u r → Apart texts edit u r
    → verdict_at texts u r ≡ verdict_at (edited texts edit) u r
unfolding verdict_at
verdict_kept texts edit u r is apart =
    let same : entry_at texts u r ≡ entry_at (edited texts edit) u r = other_kept texts edit u r is apart.other in
    verdict_same _ _ (all_rows texts) (all_rows (edited texts edit)) (rows_alike texts edit) (entry_at texts u r)
    (λ x q h. apart.not_in_old (rw q at h), λ x q h. apart.not_in_new (rw (q, same) at h))
    ∙ ap (verdict (all_rows (edited texts edit))) same

-- of the positions, which no other row has a part in
pub position_kept_lem : (texts : List (List ℕ)) (edit : Edit texts) (u r : ℕ) → IsRow texts u r → (u ≡ edit.table → r ≡ line_number edit → ⊥)
    → position_told texts u r ≡ position_told (edited texts edit) u r
unfolding position_told
position_kept_lem texts edit u r is other = ap (row_position (carried_at u)) (line_kept texts edit u r is other)

-- of the cells and positions that import writes
pub demand_3 : (texts : List (List ℕ)) (edit : Edit texts) (u r : ℕ) → IsRow texts u r → Apart texts edit u r
    → (lent lent' : Lent) → Takes texts lent → Takes (edited texts edit) lent'
    → SameCell texts (edited texts edit) lent lent' u r
demand_3 texts edit u r is apart lent lent' takes takes' =
    let is' : IsRow (edited texts edit) u r = row_kept texts edit u r is in
    record {
      written = rw (length_cells texts) (place_there texts u r is);
      written' = rw (length_cells (edited texts edit)) (place_there (edited texts edit) u r is');
      same_place = place_kept texts edit u r;
      same = imported_at texts lent takes u r is ∙ verdict_kept texts edit u r is apart ∙ sym (imported_at (edited texts edit) lent' takes' u r is');
      same_position =
          imported_position texts lent takes u r is ∙ position_kept_lem texts edit u r is apart.other
          ∙ sym (imported_position (edited texts edit) lent' takes' u r is');
    }

-- what import promises of its answer and of the buffers after makes these the cells and positions of `demand_3`
pub import_writes : (texts : List (List ℕ)) (lent : Lent) (cells positions : List ℕ) (answer : Imported)
    → answer ≡ import_of texts (room_in lent.cells lent.positions)
    → cells ≡ cells_after texts lent.cells answer → positions ≡ positions_after texts lent.positions answer
    → ◌≡◌ {A = Lent} (record { cells = cells; positions = positions }) (imported texts lent)
import_writes texts lent cells positions answer p q s = rw (q, s, p)
