-- The walk, the check, the decoded row and its contradiction together.
use mathlib.Core.Path.{ap, ◌∙◌}
use Rattle.schemas.specs.declared.Table.TheVariants.{Caf}
use Rattle.decoding.specs.Records.{caf_row}
use Rattle.decoding.proofs.PlaceLaws.{caf_divided}
use Rattle.contradictions.specs.Contradictions.{contradiction, caf_contradiction}
use Rattle.lines.proofs.WalkedLaws.{walked_over, line_is, ends_are, next_is}
use Rattle.formed.proofs.FormedLaws.{formed_is}
use Rattle.formed.proofs.read.read_caf.Goals as goal

pub returns : goal.returns
unfolding contradiction
returns c = let w = walked_over c.scan-walk.ensures.value c.part-line.ensures c.scan-walk.ensures.ends_after in
    let row = c.caf_row-row.ensures ∙ caf_divided _ (ends_are w) in
    let verdict = formed_is w Caf c.check_caf-shaped.ensures (c.caf_contradiction.ensures ∙ ap caf_contradiction row)
    c.or_contradiction.ensures in record { verdict_value = (verdict, row ∙ ap caf_row (line_is w)); next_value = next_is w }
