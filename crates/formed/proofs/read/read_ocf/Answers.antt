-- The walk, the check, the decoded row and its contradiction together.
use mathlib.Core.Path.{ap, ◌∙◌}
use Rattle.schemas.specs.declared.Table.TheVariants.{Ocf}
use Rattle.decoding.specs.Records.{ocf_row}
use Rattle.decoding.proofs.PlaceLaws.{ocf_divided}
use Rattle.contradictions.specs.Contradictions.{contradiction, ocf_contradiction}
use Rattle.lines.proofs.WalkedLaws.{walked_over, line_is, ends_are, next_is}
use Rattle.formed.proofs.FormedLaws.{formed_is}
use Rattle.formed.proofs.read.read_ocf.Goals as goal

pub returns : goal.returns
unfolding contradiction
returns c = let w = walked_over c.scan-walk.ensures.value c.part-line.ensures c.scan-walk.ensures.ends_after in
    let row = c.ocf_row-row.ensures ∙ ocf_divided _ (ends_are w) in
    let verdict = formed_is w Ocf c.check_ocf-shaped.ensures (c.ocf_contradiction.ensures ∙ ap ocf_contradiction row)
    c.or_contradiction.ensures in record { verdict_value = (verdict, row ∙ ap ocf_row (line_is w)); next_value = next_is w }
