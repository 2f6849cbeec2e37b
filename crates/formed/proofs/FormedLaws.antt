-- A row's verdict of reasons 1 to 8 from its check and its contradiction.
use mathlib.Core.Path.{◌≡◌, ap, ◌∙◌}
use mathlib.Core.List.{List}
use Prim.Native.Nat.{ℕ}
use lib.ListN.{length}
use borrow.Author.Tests.{ne_eqb}
use Rattle.lines.specs.Lines.{line_from}
use Rattle.lines.specs.Columns.{column_in}
use Rattle.lines.specs.declared.columns.Scanned.{Scanned}
use Rattle.lines.proofs.ScanLaws.{walk_ended, walk_count, walk_found}
use Rattle.lines.proofs.WalkedLaws.{Walked, line_is, ends_are}
use Rattle.schemas.specs.declared.Table.{Table}
use Rattle.schemas.specs.Tables.{schema}
use Rattle.schemas.specs.Reasons.{reason_at, line_of, shape, shape_by}
use Rattle.schemas.proofs.ShapeLaws.{schema_few, shape_walked}
use Rattle.contradictions.specs.Contradictions.{contradiction}
use Rattle.formed.specs.Formed.{or_contradiction, formed}

module _ {text : List ℕ} {at : ℕ} {walk : Scanned} {line ends : List ℕ} (w : Walked text at walk line ends) where
  shape_is : (table : Table) → shape_by (schema table) walk (length line) (column_in line ends) ≡ shape (schema table) (line_from text at)
  shape_is table =
      shape_walked (schema table) (schema_few table) line ends (ends_are w) walk (line_from text at).ended (walk_ended text at w.scan)
      (rw (line_is w) (walk_count text at w.scan)) (rw (line_is w) (walk_found text at w.scan))
      ∙ ap (λ (l : List ℕ). shape (schema table) (line_of l (line_from text at).ended)) (line_is w)

  pub formed_is : (table : Table) {s k v : ℕ} → s ≡ shape_by (schema table) walk (length line) (column_in line ends) → k ≡ contradiction table line
      → v ≡ or_contradiction s k → v ≡ formed table (line_from text at)
  unfolding formed
  formed_is table p q r = r ∙ rw (p, shape_is table, q, line_is w)

module _ (shaped column : ℕ) where
  pub shaped_first : (shaped ≡ 0 → ⊥) → shaped ≡ or_contradiction shaped column
  unfolding or_contradiction
  shaped_first h = rw (ne_eqb shaped 0 h)

  pub none : shaped ≡ 0 → column ≡ 0 → 0 ≡ or_contradiction shaped column
  unfolding or_contradiction
  none h k = rw (h, k)

  pub eight : shaped ≡ 0 → (column ≡ 0 → ⊥) → reason_at 8 column ≡ or_contradiction shaped column
  unfolding or_contradiction
  eight h k = rw (h, ne_eqb column 0 k)
