-- What is kept of tables, with the cells that judging leaves, explains their verdicts.
use mathlib.Core.Path.{◌≡◌, ap, ◌∙◌}
use mathlib.Core.List.{List}
use Prim.Native.Nat.{ℕ, ◌+◌, ◌≤◌, ◌<◌}
use native.Mathlib.Omega.{arith}
use lib.ListN.{length, get_or, drop, get_or-append}
use lib.Seq.{sets, sets-eq}
use Rattle.laws.proofs.Lists.{map_at}
use Rattle.verdicts.specs.Entries.{all_rows}
use Rattle.verdicts.specs.Verdicts.{verdict, verdicts}
use Rattle.verdicts.proofs.CellLaws.{length_cells}
use Rattle.meaning.specs.Kept.{no_entry, kept_entry}
use Rattle.kept.specs.FirstPass.{Arrays}
use Rattle.kept.specs.Keeping.{KeepsRows}
use Rattle.judged.specs.Passes.{JudgedInto}
use Rattle.judged.proofs.TableLaws.{held, cells_judged}
use Rattle.explain.specs.Explained.{Explains}
use Rattle.explain.proofs.PointLaws.{points_are, causes_are}

-- cells are read as they were written
cell_read : (cells vs : List ℕ) (i : ℕ) → length vs ≤ length cells → i < length vs → get_or (sets cells 0 vs) i 0 ≡ get_or vs i 0
cell_read cells vs i h p =
    ap (λ (l : List ℕ). get_or l i 0) (sets-eq vs cells 0 (omega arith)) ∙ get_or-append vs (drop (0 + length vs) cells) 0 i p

-- THE LAW OF EXPLAINING: `keep` promises the first of these, `judge_kept` the second, and enough cells are lent
module _ (texts : List (List ℕ)) (s₀ s : Arrays) (rows symbols : ℕ) (k : KeepsRows texts s₀ s rows symbols)
    (before after : List ℕ) (v : JudgedInto s.halves s.bytes before after rows) (room : rows ≤ length before) where
  judged : (i : ℕ) → i < length (all_rows texts) → get_or after i 0 ≡ verdict (all_rows texts) (kept_entry (all_rows texts) i)
  unfolding verdicts
  judged i p =
      ap (λ (l : List ℕ). get_or l i 0) (cells_judged texts s₀ s rows symbols k before after v)
      ∙ cell_read before (verdicts texts) i (omega (arith, length_cells texts, k.count)) (omega (arith, length_cells texts))
      ∙ map_at (verdict (all_rows texts)) (all_rows texts) i no_entry 0 p

  pub explained : Explains texts s.halves s.bytes after rows
  explained =
      record {
        count = k.count;
        judged = λ i p. judged i (omega (arith, k.count));
        points = λ i j p q.
            points_are (all_rows texts) s.words s.links symbols s.halves s.bytes (held texts s₀ s rows symbols k) after judged
            i j (omega (arith, k.count)) (omega (arith, k.count));
        told = λ i p.
            rw k.count
            (causes_are (all_rows texts) s.words s.links symbols s.halves s.bytes (held texts s₀ s rows symbols k) after judged
            i (omega (arith, k.count)));
      }
