-- A line of a table that was walked over once: the bytes of the line, and where its columns end.
use mathlib.Core.Path.{◌≡◌, ap, sym, ◌∙◌}
use mathlib.Core.Bool.{true}
use mathlib.Core.List.{List}
use Prim.Native.Nat.{ℕ}
use lib.ListN.{drop, replicate}
use lib.Seq.{sets}
use Rattle.lines.specs.Lines.{next_line, line_from}
use Rattle.lines.specs.Columns.{ends_of, divided, part_of, walked, scanned}
use Rattle.lines.specs.declared.columns.Scanned.{Scanned}
use Rattle.lines.proofs.ColumnLaws.{divided_stored}
use Rattle.lines.proofs.ScanLaws.{walk_bytes, walk_end, walk_next}

-- it was walked over, cut out, and its columns' ends were kept
pub record Walked (text : List ℕ) (at : ℕ) (walk : Scanned) (line ends : List ℕ) : Type 0 where
  pub scan : walk ≡ scanned true text at
  pub part : line ≡ part_of text at walk.end
  pub kept : ends ≡ sets (replicate 24 0) 0 (ends_of (walked true (drop at text)))

pub walked_over : {text : List ℕ} {at : ℕ} {walk : Scanned} {line ends : List ℕ} → walk ≡ scanned true text at → line ≡ part_of text at walk.end
    → ends ≡ sets (replicate 24 0) 0 (ends_of (walked true (drop at text))) → Walked text at walk line ends
walked_over s p k = record { scan = s; part = p; kept = k }

module _ {text : List ℕ} {at : ℕ} {walk : Scanned} {line ends : List ℕ} (w : Walked text at walk line ends) where
  pub line_is : line ≡ (line_from text at).bytes
  line_is = w.part ∙ walk_bytes text at w.scan

  pub ends_are : ends ≡ divided line
  unfolding line_from
  ends_are = w.kept ∙ divided_stored (walked true (drop at text)) ∙ ap divided (sym line_is)

  pub end_is : walk.end ≡ (next_line text at).end
  end_is = walk_end text at w.scan

  pub next_is : walk.next ≡ (next_line text at).next
  next_is = walk_next text at w.scan
