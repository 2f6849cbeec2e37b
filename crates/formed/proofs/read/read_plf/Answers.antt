-- The walk, the check, the decoded row and its contradiction together.
use mathlib.Core.Path.{ap, ◌∙◌}
use Rattle.schemas.specs.declared.Table.TheVariants.{Plf}
use Rattle.decoding.specs.Records.{plf_row}
use Rattle.decoding.proofs.PlaceLaws.{plf_divided}
use Rattle.contradictions.specs.Contradictions.{contradiction, plf_contradiction}
use Rattle.lines.proofs.WalkedLaws.{walked_over, line_is, ends_are, next_is}
use Rattle.formed.proofs.FormedLaws.{formed_is}
use Rattle.formed.proofs.read.read_plf.Goals as goal

pub returns : goal.returns
unfolding contradiction
returns c = let w = walked_over c.scan-walk.ensures.value c.part-line.ensures c.scan-walk.ensures.ends_after in
    let row = c.plf_row-row.ensures ∙ plf_divided _ (ends_are w) in
    let verdict = formed_is w Plf c.check_plf-shaped.ensures (c.plf_contradiction.ensures ∙ ap plf_contradiction row)
    c.or_contradiction.ensures in record { verdict_value = (verdict, row ∙ ap plf_row (line_is w)); next_value = next_is w }
