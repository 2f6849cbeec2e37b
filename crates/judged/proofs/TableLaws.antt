-- Of tables that are kept, the cells after judging are the definition's verdicts.
use mathlib.Core.Path.{◌≡◌, sym, subst}
use mathlib.Core.List.{List}
use Prim.Native.Nat.{ℕ, ◌<◌}
use native.Mathlib.Omega.{arith}
use lib.ListN.{length}
use lib.Seq.{sets}
use Rattle.verdicts.specs.Entries.{Entry, facts, all_rows, carried_at}
use Rattle.verdicts.specs.Verdicts.{verdicts}
use Rattle.verdicts.specs.Places.{text_at, no_line}
use Rattle.keys.proofs.Fitting.{Fits}
use Rattle.keys.proofs.RowLaws.{row_fits}
use Rattle.meaning.specs.Kept.{no_entry, kept_entry}
use Rattle.meaning.proofs.RowLaws.{table_rows}
use Rattle.kept.specs.Stored.{at, kept_start_column, kept_table_column}
use Rattle.kept.specs.FirstPass.{Arrays}
use Rattle.kept.specs.Keeping.{KeepsRows}
use Rattle.kept.proofs.SituationLaws.{row_again}
use Rattle.judged.specs.Passes.{JudgedInto}
use Rattle.judged.proofs.Held.{Held}
use Rattle.judged.proofs.JudgedLaws.{cells_are}
use Rattle.judged.proofs.LineLaws.{lines_below}

module _ (texts : List (List ℕ)) (s₀ s : Arrays) (rows symbols : ℕ) (k : KeepsRows texts s₀ s rows symbols) where
  -- what each row says fits into symbols
  pub fits : (i : ℕ) → i < length (all_rows texts) → Fits (facts (kept_entry (all_rows texts) i))
  fits i p =
      let w = k.situated i (omega (arith, k.count)) in
      let t : ℕ = at s.bytes kept_table_column i in
      subst (λ (e : Entry). Fits (facts e)) (sym (row_again texts t (at s.halves kept_start_column i) i w no_entry))
      (row_fits (carried_at t) _ (λ j. lines_below (text_at texts t) no_line (λ i. omega arith) (λ i. k.below t i w.below) _ j))

  pub held : Held (all_rows texts) s.words s.links symbols s.halves s.bytes
  held = record { stored = k.stored; fits = fits; tables = table_rows texts }

  pub cells_judged : (before after : List ℕ) → JudgedInto s.halves s.bytes before after rows → after ≡ sets before 0 (verdicts texts)
  unfolding verdicts
  cells_judged before after v =
      cells_are (all_rows texts) s.words s.links symbols s.halves s.bytes held before after (rw k.count at v)
