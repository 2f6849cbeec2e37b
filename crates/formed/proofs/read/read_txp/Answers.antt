-- The walk, the check, the decoded row and its contradiction together.
use mathlib.Core.Path.{ap, ◌∙◌}
use Rattle.schemas.specs.declared.Table.TheVariants.{Txp}
use Rattle.decoding.specs.Records.{txp_row}
use Rattle.decoding.proofs.PlaceLaws.{txp_divided}
use Rattle.contradictions.specs.Contradictions.{contradiction, txp_contradiction}
use Rattle.lines.proofs.WalkedLaws.{walked_over, line_is, ends_are, next_is}
use Rattle.formed.proofs.FormedLaws.{formed_is}
use Rattle.formed.proofs.read.read_txp.Goals as goal

pub returns : goal.returns
unfolding contradiction
returns c = let w = walked_over c.scan-walk.ensures.value c.part-line.ensures c.scan-walk.ensures.ends_after in
    let row = c.txp_row-row.ensures ∙ txp_divided _ (ends_are w) in
    let verdict = formed_is w Txp c.check_txp-shaped.ensures (c.txp_contradiction.ensures ∙ ap txp_contradiction row)
    c.or_contradiction.ensures in record { verdict_value = (verdict, row ∙ ap txp_row (line_is w)); next_value = next_is w }
