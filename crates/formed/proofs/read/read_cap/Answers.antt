-- The walk, the check, the decoded row and its contradiction together.
use mathlib.Core.Path.{refl, ap, ◌∙◌}
use Rattle.schemas.specs.declared.Table.TheVariants.{Cap}
use Rattle.decoding.specs.Records.{cap_row}
use Rattle.decoding.proofs.PlaceLaws.{cap_divided}
use Rattle.contradictions.specs.Contradictions.{contradiction}
use Rattle.lines.proofs.WalkedLaws.{walked_over, line_is, ends_are, next_is}
use Rattle.formed.proofs.FormedLaws.{formed_is}
use Rattle.formed.proofs.read.read_cap.Goals as goal

pub returns : goal.returns
unfolding contradiction
returns c = let w = walked_over c.scan-walk.ensures.value c.part-line.ensures c.scan-walk.ensures.ends_after in
    let row = c.cap_row-row.ensures ∙ cap_divided _ (ends_are w) in
    let verdict = formed_is w Cap c.check_cap-shaped.ensures (refl) c.or_contradiction.ensures in record { verdict_value = (verdict, row ∙ ap cap_row (line_is w)); next_value = next_is w }
