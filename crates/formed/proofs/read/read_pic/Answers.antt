-- The walk, the check, the decoded row and its contradiction together.
use mathlib.Core.Path.{ap, ◌∙◌}
use Rattle.schemas.specs.declared.Table.TheVariants.{Pic}
use Rattle.decoding.specs.Records.{pic_row}
use Rattle.decoding.proofs.PlaceLaws.{pic_divided}
use Rattle.contradictions.specs.Contradictions.{contradiction, pic_contradiction}
use Rattle.lines.proofs.WalkedLaws.{walked_over, line_is, ends_are, next_is}
use Rattle.formed.proofs.FormedLaws.{formed_is}
use Rattle.formed.proofs.read.read_pic.Goals as goal

pub returns : goal.returns
unfolding contradiction
returns c = let w = walked_over c.scan-walk.ensures.value c.part-line.ensures c.scan-walk.ensures.ends_after in
    let row = c.pic_row-row.ensures ∙ pic_divided _ (ends_are w) in
    let verdict = formed_is w Pic c.check_pic-shaped.ensures (c.pic_contradiction.ensures ∙ ap pic_contradiction row)
    c.or_contradiction.ensures in record { verdict_value = (verdict, row ∙ ap pic_row (line_is w)); next_value = next_is w }
