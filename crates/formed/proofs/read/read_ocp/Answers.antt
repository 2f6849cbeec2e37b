-- The walk, the check, the decoded row and its contradiction together.
use mathlib.Core.Path.{ap, ◌∙◌}
use Rattle.schemas.specs.declared.Table.TheVariants.{Ocp}
use Rattle.decoding.specs.Records.{ocp_row}
use Rattle.decoding.proofs.PlaceLaws.{ocp_divided}
use Rattle.contradictions.specs.Contradictions.{contradiction, ocp_contradiction}
use Rattle.lines.proofs.WalkedLaws.{walked_over, line_is, ends_are, next_is}
use Rattle.formed.proofs.FormedLaws.{formed_is}
use Rattle.formed.proofs.read.read_ocp.Goals as goal

pub returns : goal.returns
unfolding contradiction
returns c = let w = walked_over c.scan-walk.ensures.value c.part-line.ensures c.scan-walk.ensures.ends_after in
    let row = c.ocp_row-row.ensures ∙ ocp_divided _ (ends_are w) in
    let verdict = formed_is w Ocp c.check_ocp-shaped.ensures (c.ocp_contradiction.ensures ∙ ap ocp_contradiction row)
    c.or_contradiction.ensures in record { verdict_value = (verdict, row ∙ ap ocp_row (line_is w)); next_value = next_is w }
