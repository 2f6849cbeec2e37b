-- The walk, the check, the decoded row and its contradiction together.
use mathlib.Core.Path.{refl, ap, ◌∙◌}
use Rattle.schemas.specs.declared.Table.TheVariants.{Mcf}
use Rattle.decoding.specs.Records.{mcf_row}
use Rattle.rows.specs.declared.records.McfRow.{McfRow}
use Rattle.decoding.proofs.PlaceLaws.{mcf_divided}
use Rattle.contradictions.specs.Contradictions.{contradiction}
use Rattle.lines.proofs.WalkedLaws.{walked_over, line_is, ends_are, next_is}
use Rattle.formed.proofs.FormedLaws.{formed_is}
use Rattle.formed.proofs.read.read_mcf.Goals as goal

pub returns : goal.returns
unfolding contradiction
returns c = let w = walked_over c.scan-walk.ensures.value c.part-line.ensures c.scan-walk.ensures.ends_after in
    let row = c.mcf_ident-row.ensures ∙ ap (λ (r : McfRow). r.ident) (mcf_divided _ (ends_are w) ∙ ap mcf_row (line_is w)) in
    let verdict = formed_is w Mcf c.check_mcf-shaped.ensures (refl) c.or_contradiction.ensures in record { verdict_value = (verdict, row); next_value = next_is w }
