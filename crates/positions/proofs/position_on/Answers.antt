-- The line is walked and divided once.
use mathlib.Core.Path.{ap, ◌∙◌}
use mathlib.Core.List.{List}
use Prim.Native.Nat.{ℕ}
use Rattle.schemas.specs.Positions.{position_in, kind_of}
use Rattle.decoding.specs.Records.{column}
use Rattle.lines.proofs.WalkedLaws.{walked_over, line_is, ends_are}
use Rattle.positions.proofs.TextLaws.{position_divided}
use Rattle.positions.proofs.position_on.Goals as goal

pub returns : goal.returns
returns c = let w = walked_over c.scan-walk.ensures.value c.part-line.ensures c.scan-walk.ensures.ends_after in
    c.position_in.ensures ∙ ap (position_in (kind_of c.args.kind c.args.k)) c.column.ensures
    ∙ position_divided c.args.kind _ _ c.args.k (ends_are w)
    ∙ ap (λ (l : List ℕ). position_in (kind_of c.args.kind c.args.k) (column l c.args.k)) (line_is w)
