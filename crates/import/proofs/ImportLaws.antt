-- The answer of an import whose rows are kept and judged is the definition's.
use mathlib.Core.Path.{◌≡◌, ap, ap₂, sym, ◌∙◌}
use mathlib.Core.Bool.{true}
use mathlib.Core.List.{List}
use Prim.Native.Nat.{ℕ, ◌≤◌}
use native.Mathlib.Omega.{arith}
use lib.ListN.{length, take}
use borrow.Author.Tests.{le-leb}
use Rattle.std.specs.Prelude.{Result, Ok, Err}
use Rattle.outcomes.specs.Refusals.{refusal_number, refusal_place}
use Rattle.outcomes.specs.declared.Refusal.{Refusal}
use Rattle.symbols.specs.Arrays.{all_words, all_links}
use Rattle.verdicts.specs.Entries.{all_rows}
use Rattle.verdicts.specs.Verdicts.{verdicts}
use Rattle.verdicts.specs.Answer.{taken, zeros, room_in, import_of, cells_after, positions_after}
use Rattle.kept.specs.FirstPass.{Arrays, arrays}
use Rattle.kept.specs.Keeping.{has_places, KeepsRows}
use Rattle.kept.proofs.KeepingLaws.{sizes_taken}
use Rattle.kept.specs.Puts.{all_halves, all_bytes}
use Rattle.judged.specs.Passes.{JudgedInto}
use Rattle.judged.proofs.TableLaws as tables
use Rattle.positions.specs.Kept.{PositionsBy}
use Rattle.positions.proofs.KeptLaws.{positions_are}
use Rattle.import.specs.Judged.{judged_cells, said_imported, AnswersBy}
use Rattle.import.specs.declared.Imported.{Imported}
use Rattle.import.proofs.AnswerLaws.{cells_enough, cells_are, cells_first, answer_few, answer_taken}

-- the answer, the cells and the positions are the definition's
pub record Answered (texts : List (List ℕ)) (before after before' after' : List ℕ) (r : Result Imported Refusal) : Type 0 where
  pub answer : said_imported r ≡ import_of texts (room_in before before')
  pub cells : after ≡ cells_after texts before (said_imported r)
  pub positions : after' ≡ positions_after texts before' (said_imported r)

module _ (texts : List (List ℕ)) (s₀ s : Arrays) (rows symbols : ℕ) (k : KeepsRows texts s₀ s rows symbols) where
  module _ (before after : List ℕ) (v : JudgedInto s.halves s.bytes before after rows) (enough : rows ≤ length before) where
    -- the cells are the verdicts
    cells_judged : after ≡ judged_cells texts before
    cells_judged =
        tables.cells_judged texts s₀ s rows symbols k before after v ∙ sym (cells_enough texts before (omega (arith, k.count, enough)))

    module _ (before' after' : List ℕ) (enough' : rows ≤ length before') (p : PositionsBy texts s.halves s.bytes before' after' rows) where
      pub answer_done : (good : ℕ) → good ≡ zeros (take rows after) → Answered texts before after before' after' (Ok (record { rows = rows; good = good }))
      unfolding said_imported cells_after positions_after
      answer_done good g =
          let f = sizes_taken texts k.fits in
          let h : length (all_rows texts) ≤ length before = omega (arith, k.count, enough) in
          let z : good ≡ zeros (verdicts texts) = g ∙ ap zeros (ap₂ take k.count cells_judged ∙ cells_first texts before h) in
          record {
            answer = ap₂ taken k.count z ∙ sym (answer_taken texts (room_in before before') f.0 f.1 (omega (arith, k.count)));
            cells = cells_judged ∙ cells_are texts before h ∙ rw k.count;
            positions = positions_are texts s₀ s rows symbols k before' after' enough' p;
          }

  -- by the answer
  pub answer_by : (before after before' after' : List ℕ) (r : Result Imported Refusal) → AnswersBy texts s.halves s.bytes before after before' after' rows r
      → Answered texts before after before' after' r
  unfolding AnswersBy said_imported cells_after positions_after refusal_number refusal_place
  answer_by before after before' after' (Ok counts) a =
      rw a.all (answer_done before after a.judged a.enough before' after' a.enough' a.placed counts.good a.zeros)
  answer_by before after before' after' (Err refusal) a =
      let f = sizes_taken texts k.fits in
      record {
        answer = rw a.0 (sym (answer_few texts (room_in before before') f.0 f.1 (omega (arith, k.count, a.1))));
        cells = a.2;
        positions = a.3;
      }

-- arrays of the full size have room
pub has_room : (words links halves bytes : List ℕ) → all_words ≤ length words → all_links ≤ length links
    → all_halves ≤ length halves → all_bytes ≤ length bytes → has_places (arrays words links 0 halves bytes) ≡ true
has_room words links halves bytes w k h b =
    rw (le-leb all_words (length words) w, le-leb all_links (length links) k, le-leb all_halves (length halves) h, le-leb all_bytes (length bytes) b)
