-- The walk, the check, the decoded row and its contradiction together.
use mathlib.Core.Path.{refl, ap, ◌∙◌}
use Rattle.schemas.specs.declared.Table.TheVariants.{Pid}
use Rattle.decoding.specs.Records.{pid_row}
use Rattle.decoding.proofs.PlaceLaws.{pid_divided}
use Rattle.contradictions.specs.Contradictions.{contradiction}
use Rattle.lines.proofs.WalkedLaws.{walked_over, line_is, ends_are, next_is}
use Rattle.formed.proofs.FormedLaws.{formed_is}
use Rattle.formed.proofs.read.read_pid.Goals as goal

pub returns : goal.returns
unfolding contradiction
returns c = let w = walked_over c.scan-walk.ensures.value c.part-line.ensures c.scan-walk.ensures.ends_after in
    let row = c.pid_row-row.ensures ∙ pid_divided _ (ends_are w) in
    let verdict = formed_is w Pid c.check_pid-shaped.ensures (refl) c.or_contradiction.ensures in record { verdict_value = (verdict, row ∙ ap pid_row (line_is w)); next_value = next_is w }
