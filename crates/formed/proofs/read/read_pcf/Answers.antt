-- The walk, the check, the decoded row and its contradiction together.
use mathlib.Core.Path.{ap, ◌∙◌}
use Rattle.schemas.specs.declared.Table.TheVariants.{Pcf}
use Rattle.decoding.specs.Records.{pcf_row}
use Rattle.decoding.proofs.PlaceLaws.{pcf_divided}
use Rattle.contradictions.specs.Contradictions.{contradiction, pcf_contradiction}
use Rattle.lines.proofs.WalkedLaws.{walked_over, line_is, ends_are, next_is}
use Rattle.formed.proofs.FormedLaws.{formed_is}
use Rattle.formed.proofs.read.read_pcf.Goals as goal

pub returns : goal.returns
unfolding contradiction
returns c = let w = walked_over c.scan-walk.ensures.value c.part-line.ensures c.scan-walk.ensures.ends_after in
    let row = c.pcf_row-row.ensures ∙ pcf_divided _ (ends_are w) in
    let verdict = formed_is w Pcf c.check_pcf-shaped.ensures (c.pcf_contradiction.ensures ∙ ap pcf_contradiction row)
    c.or_contradiction.ensures in record { verdict_value = (verdict, row ∙ ap pcf_row (line_is w)); next_value = next_is w }
