-- The line of the row is walked once, and its column cut out.
use mathlib.Core.Path.{ap, ap₂, ◌∙◌}
use mathlib.Core.List.{List, [], map}
use Prim.Native.Nat.{ℕ}
use lib.ListN.{get_or}
use Rattle.lines.proofs.WalkedLaws.{walked_over}
use Rattle.key_texts.specs.Shown.{column_text}
use Rattle.key_texts.proofs.TextLaws.{text_none, text_read}
use Rattle.key_texts.proofs.text_of.Goals as goal

pub returns-then-k-eq0 : goal.returns-then-k-eq0
returns-then-k-eq0 c = c.part.ensures ∙ text_none _ _ _ c.if-k-eq0.true

pub returns : goal.returns
returns c = let texts = map (λ x. x.now) c.args.tables in
    text_read _ _ _ c.if-k-eq0.false (walked_over c.scan-walk.ensures.value c.part-line.ensures c.scan-walk.ensures.ends_after) _ c.column.ensures
    ∙ ap₂ (λ (t : List ℕ) (start : ℕ). column_text t start c.args.k)
    (c.table_at-table.ensures ∙ ap (λ (t : ℕ). get_or texts t []) c.byte.ensures) c.half-start.ensures
