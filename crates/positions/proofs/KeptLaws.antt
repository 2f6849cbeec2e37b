-- Of tables that are kept the positions are the definition's.
use mathlib.Core.Path.{◌≡◌, sym, ap, ap₂, ◌∙◌}
use mathlib.Core.List.{List, ◌++◌}
use Prim.Native.Nat.{ℕ, suc, ◌+◌, ◌-◌, ◌≤◌, ◌<◌, min}
use native.Mathlib.Omega.{arith}
use lib.ListN.{length, get_or, drop}
use lib.Seq.{ext_get_or}
use Rattle.laws.specs.Values.{tabulate}
use Rattle.laws.proofs.Values.{tabulate_length, tabulate_at, written}
use Rattle.lines.specs.Lines.{Line}
use Rattle.verdicts.specs.Entries.{Entry, own, carried_at}
use Rattle.verdicts.specs.Places.{IsRow, text_at, rows_before, place}
use Rattle.verdicts.specs.Positions.{position_by, row_position, position_told, positions}
use Rattle.verdicts.proofs.EntryLaws.{own_reading}
use Rattle.verdicts.proofs.CellLaws.{length_positions, position_at}
use Rattle.formed.specs.Formed.{formed}
use Rattle.meaning.specs.Kept.{no_entry}
use Rattle.keys.specs.Held.{keys_of}
use Rattle.kept.specs.Stored.{at, own_column, kept_start_column, kept_table_column}
use Rattle.kept.specs.FirstPass.{Arrays, table_line}
use Rattle.kept.specs.Keeping.{KeepsRows}
use Rattle.kept.proofs.SituationLaws.{line_below, line_there, row_again}
use Rattle.judged.proofs.Held.{column_at_lem}
use Rattle.positions.specs.Kept.{position_kept, PositionsBy}
use Rattle.positions.proofs.TextLaws.{position_low}

module _ (texts : List (List ℕ)) (s₀ s : Arrays) (rows symbols : ℕ) (k : KeepsRows texts s₀ s rows symbols) where
  -- of each row
  position_is : (i : ℕ) → i < rows → position_kept texts s.halves s.bytes i ≡ get_or (positions texts) i 0
  unfolding position_kept position_told row_position place keys_of
  position_is i h =
      let t : ℕ = at s.bytes kept_table_column i in
      let w = k.situated i h in
      let j : ℕ = i - rows_before texts t in
      let is : IsRow texts t (suc j) = record { table = w.below; above = omega arith; below = line_below texts t _ i w } in
      let here : rows_before texts t + (suc j - 1) ≡ i = omega (arith, w.low) in
      let p : suc j - 1 ≡ j = omega arith in
      let few = k.stored.few in
      let line : Line = table_line (text_at texts t) j in
      let mine : at s.halves own_column i ≡ formed (carried_at t) line =
      (k.stored.row i (omega (arith, k.count))).own ∙ ap (λ (e : Entry). own e.reading) (row_again texts t _ i w no_entry) ∙ own_reading (carried_at t) line
      in
      let low = position_low (carried_at t) line in
      rw (
        column_at_lem s.bytes kept_table_column i (omega (arith, k.count)),
        column_at_lem s.halves kept_start_column i (omega (arith, k.count)),
        column_at_lem s.halves own_column i (omega (arith, k.count)),
      )
      (ap (λ (x : ℕ). min x 65535) (ap₂ (position_by (carried_at t)) (sym (line_there w)) mine) ∙ omega arith
      ∙ sym (rw (here, p) at (position_at texts t (suc j) is)))

  -- of all
  pub positions_are : (before after : List ℕ) → rows ≤ length before → PositionsBy texts s.halves s.bytes before after rows
      → after ≡ positions texts ++ drop rows before
  positions_are before after room by =
      let f = position_kept texts s.halves s.bytes in
      by ∙ written f before rows room
      ∙ ap (λ (l : List ℕ). l ++ drop rows before)
      (ext_get_or 0 (tabulate f 0 rows) (positions texts) (tabulate_length f 0 rows ∙ k.count ∙ sym (length_positions texts))
      (λ i h. let b : i < rows = omega (arith, tabulate_length f 0 rows) in
      let z : 0 + i ≡ i = omega arith in
      tabulate_at f 0 rows i b ∙ ap f z ∙ position_is i b))
